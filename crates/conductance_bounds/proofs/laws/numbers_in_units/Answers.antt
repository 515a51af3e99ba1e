use Rattle.conductance_bounds.proofs.Units.{units_ceiling, units_floor}
use Rattle.conductance_bounds.proofs.laws.numbers_in_units.Goals as goal

pub returns-clause-floors : goal.returns-clause-floors
returns-clause-floors c = units_floor

pub returns-clause-ceilings : goal.returns-clause-ceilings
returns-clause-ceilings c = units_ceiling
