use Rattle.water_storage.proofs.Common.{FitsSigned, rules, to_z-of_z, w128, number, floor_units}
use Rattle.water_storage.proofs.Elevations.{small_floor}
use Rattle.water_storage.proofs.tops.floor_of.Goals as goal

pub returns : goal.returns
returns c =
    let fits : FitsSigned w128 c.unwrap_or.result = search rules in
    simp to_z-of_z (floor_units c.args.x 9 _ (small_floor (number c.args.x) c.floor_at.result _ c.unwrap_or.ensures c.requires.small c.floor_at.ensures.floor c.floor_at.ensures.past))
