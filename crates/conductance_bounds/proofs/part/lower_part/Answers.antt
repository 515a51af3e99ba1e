use Rattle.conductance_bounds.proofs.Common.{◌^◌, arith, IsFloor, Reaches, value}
use Rattle.conductance_bounds.proofs.PartBounds.{few_units}
use Rattle.conductance_bounds.proofs.part.lower_part.Goals as goal

pub overflow_cast-result : goal.overflow_cast-result
overflow_cast-result c = let floor : IsFloor c.in-Some.part (value c.args.x) 18 = c.in-Some.ensures.value.0 in omega (arith, few_units c.in-Some.part (value c.args.x) c.requires.part floor.at_most)

pub unreachable-requires : goal.unreachable-requires
unreachable-requires c = let past : Reaches (2 ^ 126) (value c.args.x) 18 = c.in-None.ensures.value in omega (arith, few_units (2 ^ 126) (value c.args.x) c.requires.part past.reach)
