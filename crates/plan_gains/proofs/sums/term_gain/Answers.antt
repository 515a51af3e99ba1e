use Rattle.step_problem.specs.{lower_at, upper_at}
use Rattle.plan_gains.proofs.TermSums.{one_more}
use Rattle.plan_gains.proofs.sums.term_gain.Goals as goal

pub loop-c-preserved : goal.loop-c-preserved
loop-c-preserved c = record {
  value = one_more c.args.base.now c.args.p.now (lower_at c.args.bounds.now) (upper_at c.args.bounds.now) c.args.dir c.args.term c.loop-c.c _ _
      c.loop-c.invariant.value (rw (c.cell-plan.ensures, c.cell-cell.ensures) at c.add_cell-sum.ensures.value);
  sum = c.add_cell-sum.ensures.sum;
}
