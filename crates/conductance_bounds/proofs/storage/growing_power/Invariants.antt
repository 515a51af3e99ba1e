use Rattle.conductance_bounds.proofs.Common.{◌+◌, ◌*◌, pos, neg_ℤ, size, HasSize, power_term, IsOrdered, AreBounds}
use Rattle.conductance_bounds.proofs.storage.growing_power.Given as goal

abbrev pub invariant-loop-step : goal.invariant-loop-step
invariant-loop-step l = record {
  ordered : IsOrdered l.power;
  bounds : AreBounds (power_term (size l.fn.tsmult) l._step) l.power;
  low : HasSize l.power.lo (neg_ℤ (pos (17 + 3 * l._step))) (pos (4 * l._step));
  high : HasSize l.power.hi (neg_ℤ (pos (17 + 3 * l._step))) (pos (4 * l._step));
}
