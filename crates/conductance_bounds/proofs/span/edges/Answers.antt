use Rattle.conductance_bounds.proofs.Common.{number, FitsSigned, rules, w128, to_z-of_z}
use Rattle.conductance_bounds.proofs.{ThickBounds.floor_or_limit, ThickBounds.ceiling_or_limit, Units.ceiling_units, Units.floor_units}
use Rattle.conductance_bounds.proofs.span.edges.Goals as goal

pub returns-clause-floor : goal.returns-clause-floor
returns-clause-floor c =
    let fits : FitsSigned w128 c.unwrap_or.result = search rules in
    simp to_z-of_z (floor_units c.args.x 18 _ (floor_or_limit (number c.args.x) c.floor_at.result _ c.unwrap_or.ensures c.requires.low c.floor_at.ensures.floor c.floor_at.ensures.past))

pub returns-clause-ceiling : goal.returns-clause-ceiling
returns-clause-ceiling c =
    let fits : FitsSigned w128 c.unwrap_or-2.result = search rules in
    simp to_z-of_z (ceiling_units c.args.x 18 _ (ceiling_or_limit (number c.args.x) c.ceil_at.result _ c.unwrap_or-2.ensures c.requires.high c.ceil_at.ensures.ceiling c.ceil_at.ensures.past))
