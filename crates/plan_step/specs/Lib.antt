pub mod Branches
pub mod Problems
pub mod Laws
pub use Rattle.plan_step.specs.Branches.{acting, branch, divided, drain_branch, evap_branch, evap_least, evap_most, known_branch, known_high, known_low}
pub use Rattle.plan_step.specs.Branches.{river_branch, turned}
unfoldable pub use Rattle.plan_step.specs.Branches.{acting_between}
pub use Rattle.plan_step.specs.Laws.{AreTwoPlans, DifferencesHaveAStep, DrainsAreEnclosed, EvapsAreEnclosed, IsApartBy, IsPlannedCell, IsPlannedStep}
pub use Rattle.plan_step.specs.Laws.{RiversAreEnclosed, SolutionsBoundPlans, are_turned, turned_flow}
pub use Rattle.plan_step.specs.Problems.{IsDifferenceProblem, bound_at, difference_cell}
