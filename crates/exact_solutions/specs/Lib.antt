pub mod Held
pub use Rattle.exact_solutions.specs.Held.{AfloatHaveAnother, DrainedHaveAnother, HasAtMostOne, HasNoKnownHead, HasNoneOrMany, HeldHaveASolution}
pub use Rattle.exact_solutions.specs.Held.{HeldHaveAtMostOne, IsAnchoredAbove, IsHeldAbove, TwoLooseCells, WellOfDeepFlow, WellPastDeepFlow, WellWithinDeepFlow}
pub use Rattle.exact_solutions.specs.Held.{river_and_well, two_cells}
