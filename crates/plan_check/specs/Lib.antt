pub mod Differences
pub mod Steps
pub mod Verdicts
pub mod Parts
pub use Rattle.plan_check.specs.Differences.{ArePosed, DifferenceFailsAt, DifferencesHold, HaveNoBarrier, ReachesZero}
pub use Rattle.plan_check.specs.Parts.{DifferencesFailBy, FailsBy, FlowsFailBy, IsVerdictAt, heads_before, lent_heads, of_bound, of_check, place_in, step_at}
pub use Rattle.plan_check.specs.Steps.{AreWide, BaseHolds, FailsAt, FlowFailsAt, HeadsHold, IsRefused, Passes, PlannedHolds, SourcesHold, as_budget, at_source}
pub use Rattle.plan_check.specs.Steps.{at_zones, in_base, in_differences, in_flows, in_planned, of_base, of_differences, of_flows, of_planned}
pub use Rattle.plan_check.specs.Verdicts.{CertifiedPlansEnclose, Checks, IsPlanVerdict, PlanVerdictIsOne, StopsAt}
