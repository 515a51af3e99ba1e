pub mod Pairs
pub mod Steps
pub use Rattle.plan_histories.specs.Pairs.{DifferLess, PairsAreHistories, PairsHaveOne, SolvesPairs, SolvesPairsFrom}
pub use Rattle.plan_histories.specs.Steps.{KeepsWellsApart, MembersKeepWellsApart, PlannedSteps, ReadersKeepWellsApart, plan_flows}
