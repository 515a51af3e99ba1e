use Rattle.conductance_bounds.proofs.Common.{◌*◌, pos, neg_ℤ, size, HasSize, sum_term, IsOrdered, AreBounds}
use Rattle.conductance_bounds.proofs.storage.growing_sum.Given as goal

abbrev pub invariant-loop-step : goal.invariant-loop-step
invariant-loop-step l = record {
  ordered : IsOrdered l.sum;
  bounds : AreBounds (sum_term (size l.fn.tsmult) l._step) l.sum;
  low : HasSize l.sum.lo (neg_ℤ (pos 17)) (pos (5 * l._step));
  high : HasSize l.sum.hi (neg_ℤ (pos 17)) (pos (5 * l._step));
}
