use Rattle.gentle_heads.proofs.Common.{FitsSigned, rules, w128, to_z-of_z, number}
use Rattle.gentle_heads.proofs.Elevations.{floor_at, past_floor, lt_is}
use Rattle.gentle_heads.proofs.compare.is_below.Goals as goal

pub returns-in-Some : goal.returns-in-Some
returns-in-Some c =
    let z : FitsSigned w128 c.in-Some.floor = search rules in
    let h : FitsSigned w128 c.args.head = search rules in
    simp to_z-of_z (lt_is c.in-Some.floor c.args.head _ (floor_at (number c.args.elevation) c.in-Some.floor c.args.head c.in-Some.ensures.floor))

pub returns-in-None : goal.returns-in-None
returns-in-None c = past_floor c.args.elevation c.args.head c.in-None.ensures.past c.requires.head
