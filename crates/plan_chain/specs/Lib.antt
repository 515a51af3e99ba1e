pub mod Differences
pub mod Plans
pub mod Walks
pub mod Laws
pub use Rattle.plan_chain.specs.Differences.{AreByCell, AreDifferencesBy, FailBy, IsTheirProblem}
pub use Rattle.plan_chain.specs.Laws.{BothHaveOne, BoundsPair, BoundsPairs, IsBeforeStep, PairsLieWithin, PlanStepEncloses}
pub use Rattle.plan_chain.specs.Plans.{ArePlanHeads, FailsAt, FailsInPart, HasNoBoundAt, IsBaseStep, IsOpenAt, IsPlanStep, IsPlanTask, IsPlannedDeckStep}
pub use Rattle.plan_chain.specs.Plans.{decks_with, heads_in, plan_pairs}
pub use Rattle.plan_chain.specs.Walks.{AllPlanSteps, AreStartsOf, IsAtFirst, IsNext, IsPlanWalk, PlanSteps, Stays, StopsAt, stop_by, stop_of, times_left}
