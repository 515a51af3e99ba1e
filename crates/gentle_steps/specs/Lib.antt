pub mod Sides
pub mod Steps
pub mod Laws
pub use Rattle.gentle_steps.specs.Laws.{HeldStepsHaveSigns}
pub use Rattle.gentle_steps.specs.Sides.{AreSideBounds, side_bound, side_bounds}
pub use Rattle.gentle_steps.specs.Steps.{ArePosed, AreSidesPosed, ConstantsReach, FailsAt, FailsBy, HasNoSideProblem, HasSign, HasSignAt, HaveSigns, HeadsHold}
pub use Rattle.gentle_steps.specs.Steps.{IsFirst, IsFirstCrossed, IsFirstLarge, IsFirstShort, IsFirstWeak, IsGentlyListed, IsRefused, IsShort, IsSideProblem}
pub use Rattle.gentle_steps.specs.Steps.{IsSteep, IsUnposed, IsWeak, ReachesAt, ReachesOn, StoredWaterFits, of_bound, variable_bounds}
pub use Rattle.gentle_steps.specs.Steps.FailsAt.{at_constant, at_variable}
pub use Rattle.gentle_steps.specs.Steps.IsRefused.{no_high_problem, no_low_problem, no_storage}
