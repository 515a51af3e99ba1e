use Rattle.std.proofs.Common.{◌<◌, arith, length, refl}
use Rattle.problem_hull.proofs.Hulls.{hull_more}
use Rattle.problem_hull.proofs.problem.hulls.Goals as goal

pub loop-i-preserved : goal.loop-i-preserved
loop-i-preserved g c =
    let below : c.loop-i.i < length c.args.b.now = omega arith in
    rw c.in_ok-push-in-Some.ensures.items
    (hull_more g.E.Bounded.shape g.E.Bounded.hull_of c.args.a.now c.args.b.now c.loop-i.hulls.items c.loop-i.i c.index-a-i.result c.index-b-i.result
    c.in-Some.hull c.loop-i-test.true below c.index-a-i.is c.index-b-i.is c.loop-i.invariant c.in-Some.ensures)
