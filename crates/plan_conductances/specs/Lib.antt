pub mod OneWell
pub mod Laws
pub mod Growth
pub mod Example
pub use Rattle.plan_conductances.specs.Example.{IsMetByExample, base_step, first_cell, less_step, more_step, planned_step, second_cell}
pub use Rattle.plan_conductances.specs.Growth.{ConductancesGrow, HasAtMost}
pub use Rattle.plan_conductances.specs.Laws.{ArePlansOfAWell, AreStepsOfAWell, BoundsFromAbove, BoundsFromBelow, DrawdownFalls, WellLiesBetween}
pub use Rattle.plan_conductances.specs.OneWell.{ConductsAtMost, IsCellOfFlow, IsOfOneWell, LinkConductsAtMost, at_well, known_conductance, whole_conductance}
