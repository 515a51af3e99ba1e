use Rattle.water_conductances.proofs.Common.{FitsSigned, rules, to_z-of_z, w128, number, floor_or_limit, floor_units}
use Rattle.water_conductances.proofs.edges.floor_of.Goals as goal

pub returns-clause-floor : goal.returns-clause-floor
returns-clause-floor c =
    let fits : FitsSigned w128 c.unwrap_or.result = search rules in
    simp to_z-of_z (floor_units c.args.x 18 _ (floor_or_limit (number c.args.x) c.floor_at.result _ c.unwrap_or.ensures c.requires.low c.floor_at.ensures.floor c.floor_at.ensures.past))
