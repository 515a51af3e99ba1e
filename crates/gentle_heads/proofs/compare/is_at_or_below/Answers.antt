use Rattle.gentle_heads.proofs.Common.{FitsSigned, rules, w128, to_z-of_z, number}
use Rattle.gentle_heads.proofs.Elevations.{ceiling_at, past_ceiling, le_is}
use Rattle.gentle_heads.proofs.compare.is_at_or_below.Goals as goal

pub returns-in-Some : goal.returns-in-Some
returns-in-Some c =
    let z : FitsSigned w128 c.in-Some.ceiling = search rules in
    let h : FitsSigned w128 c.args.head = search rules in
    simp to_z-of_z (le_is c.in-Some.ceiling c.args.head _ (ceiling_at (number c.args.elevation) c.in-Some.ceiling c.args.head c.in-Some.ensures.ceiling))

pub returns-in-None : goal.returns-in-None
returns-in-None c = past_ceiling c.args.elevation c.args.head c.in-None.ensures.past c.requires.head
