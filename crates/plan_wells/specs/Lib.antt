pub mod Plans
pub mod Laws
pub use Rattle.plan_wells.specs.Laws.{AlikeHaveOnePlan, PlainAreFew, PlannedAreAlike, PlannedAreValid, PlannedLieBetween}
pub use Rattle.plan_wells.specs.Plans.{IsPlan, IsWell, are_few, plan_of, planned, with_plan, with_wells}
