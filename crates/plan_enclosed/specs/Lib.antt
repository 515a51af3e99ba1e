pub mod Laws
pub use Rattle.plan_enclosed.specs.Laws.{AreOneNetwork, AreTwoSolutions, IsSameBranch, SourcesEnclose, ZonesEnclose, is_listed, more_flow, more_net}
pub use Rattle.plan_enclosed.specs.Laws.{sum_by_branches}
