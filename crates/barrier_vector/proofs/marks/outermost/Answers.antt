use Rattle.barrier_vector.proofs.Common.{refl, says_at}
use Rattle.barrier_vector.proofs.Marking.{marks_more}
use Rattle.barrier_vector.proofs.marks.outermost.Goals as goal

pub loop-x-preserved : goal.loop-x-preserved
loop-x-preserved g c = λ of returns. marks_more c.args.side of c.args.entries.now c.loop-x.x-index _ _ c.loop-x.best c.mark.result c.outer_mark-best.result
    c.loop-x-test.true c.x-item.is (returns _ _ (says_at g.F.Fn c.mark.ensures refl)) c.outer_mark-best.ensures (c.loop-x.invariant of returns)
