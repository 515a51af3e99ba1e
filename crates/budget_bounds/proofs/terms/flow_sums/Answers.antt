use Rattle.budget_bounds.proofs.Common.{In, Out, lower_at, upper_at}
use Rattle.budget_bounds.proofs.Caps.{one_more}
use Rattle.budget_bounds.proofs.terms.flow_sums.Goals as goal

pub loop-c-preserved : goal.loop-c-preserved
loop-c-preserved c =
    let p = c.args.p.now in
    let l = lower_at c.args.bounds.now in
    let u = upper_at c.args.bounds.now in
    record {
      into = λ t. one_more p l u In t c.loop-c.c _ _ (c.loop-c.invariant.into t) (rw c.cell-cell.ensures at (c.add_cell.ensures.value t));
      into_sums = c.add_cell.ensures.sums;
      out = λ t. one_more p l u Out t c.loop-c.c _ _ (c.loop-c.invariant.out t) (rw c.cell-cell.ensures at (c.add_cell-in-loop-c.ensures.value t));
      out_sums = c.add_cell-in-loop-c.ensures.sums;
    }
