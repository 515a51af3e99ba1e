use Rattle.std.proofs.Common.{refl, sym, arith}
use Rattle.std.proofs.lemmas.Fn.{says_at}
use Rattle.step_problem.proofs.Sums.{capped_more}
use Rattle.step_problem.proofs.fitting.sums.sum_capped.Goals as goal

pub loop-x-preserved : goal.loop-x-preserved
loop-x-preserved g c = record {
  value = λ of returns. capped_more of c.args.entries.now c.loop-x.x-index c.args.cap _ _ _ _ _ c.loop-x-test.true c.x-item.is
      (c.loop-x.invariant.value of returns) (returns _ _ (c.loop-x.x-index, c.loop-x-test.true, sym c.x-item.is) (says_at g.F.Fn c.size.ensures refl))
      c.add_capped-sum.ensures;
  capped = omega (arith, c.add_capped-sum.ensures);
}
