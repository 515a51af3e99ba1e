pub mod Plans
pub mod DifferenceStep
pub mod AnyWeather
pub mod Example
pub use Rattle.plan_difference.specs.AnyWeather.{BoundsDifferences, BoundsDifferencesOf, EnclosesDifferences, IsOpenBranch, SolutionsBoundDifferences}
pub use Rattle.plan_difference.specs.DifferenceStep.{AreFlowsApart, AreInOneWeather, AreStepsInOneWeather, DifferenceSolvesIt, DifferenceStepExists}
pub use Rattle.plan_difference.specs.DifferenceStep.{IsDifferenceCell, IsDifferenceStep, IsRampBranch, known_difference, known_differences}
pub use Rattle.plan_difference.specs.Example.{IsMetByExample, added, base_heads, base_step, half, planned_heads, planned_step, problem_of_differences}
pub use Rattle.plan_difference.specs.Example.{step_of_differences}
pub use Rattle.plan_difference.specs.Plans.{DifferencesLieAbove, DifferencesLieBelow, RampsShare, greatest_balance, least_balance, least_of_ramp, most_of_ramp}
