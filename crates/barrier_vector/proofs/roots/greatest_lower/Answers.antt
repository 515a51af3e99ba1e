use Rattle.barrier_vector.proofs.Common.{refl, says_at}
use Rattle.barrier_vector.proofs.Rooting.{greatest_on}
use Rattle.barrier_vector.proofs.roots.greatest_lower.Goals as goal

pub loop-x-preserved : goal.loop-x-preserved
loop-x-preserved g c = λ lo returns. greatest_on lo c.args.entries.now c.loop-x.x-index _ c.loop-x.best c.max-best.result c.lower.result c.loop-x-test.true
    c.x-item.is (returns _ _ (says_at g.F.Fn c.lower.ensures refl)) c.max-best.ensures (c.loop-x.invariant lo returns)
