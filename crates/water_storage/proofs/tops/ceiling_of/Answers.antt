use Rattle.water_storage.proofs.Common.{FitsSigned, rules, to_z-of_z, w128, number, ceiling_units}
use Rattle.water_storage.proofs.Elevations.{small_ceiling}
use Rattle.water_storage.proofs.tops.ceiling_of.Goals as goal

pub returns : goal.returns
returns c =
    let fits : FitsSigned w128 c.unwrap_or.result = search rules in
    simp to_z-of_z (ceiling_units c.args.x 9 _ (small_ceiling (number c.args.x) c.ceil_at.result _ c.unwrap_or.ensures c.requires.small c.ceil_at.ensures.ceiling c.ceil_at.ensures.past))
