use Rattle.conductance_bounds.proofs.Common.{◌+◌, ◌*◌, arith, ints, size}
use Rattle.conductance_bounds.proofs.Multipliers.{multiplier_size, power_start, power_next, power_size, sizes_reach}
use Rattle.conductance_bounds.proofs.storage.growing_power.Goals as goal

pub loop-step-init : goal.loop-step-init
loop-step-init c =
    let one = c.one-power.ensures in
    record {
      ordered = one.ordered;
      bounds = power_start (size c.args.tsmult) _ one.bounds;
      low = record { positive = one.low.positive; above = one.low.above; below = omega (arith, ints, one.low.below) };
      high = record { positive = one.high.positive; above = one.high.above; below = omega (arith, ints, one.high.below) };
    }

pub times-power-requires-clause-near : goal.times-power-requires-clause-near
times-power-requires-clause-near c = omega (
  arith,
  sizes_reach c.loop-step.power (17 + 3 * c.loop-step._step) (4 * c.loop-step._step) 4000
      (omega (arith, c.loop-step-test.true, c.requires.slow.few))
      (omega (arith, c.loop-step-test.true, c.requires.slow.few)) c.loop-step.invariant.low c.loop-step.invariant.high,
  c.exact_span-t.ensures.reach,
)

pub loop-step-preserved : goal.loop-step-preserved
loop-step-preserved c =
    let t = multiplier_size c.exact_span-t.result.lo c.args.tsmult _ c.exact_span-t.ensures.ordered.low c.exact_span-t.ensures.exact.0 c.requires.slow in
    let t' = multiplier_size c.exact_span-t.result.hi c.args.tsmult _ c.exact_span-t.ensures.ordered.high c.exact_span-t.ensures.exact.1 c.requires.slow in
    record {
      ordered = c.times-power.ensures.ordered;
      bounds = power_next (size c.args.tsmult) c.loop-step._step _ (c.times-power.ensures.bounds _ _ c.loop-step.invariant.bounds c.exact_span-t.ensures.bounds);
      low = power_size c.loop-step.power.lo c.exact_span-t.result.lo c.times-power.result.lo c.loop-step._step c.loop-step.invariant.low t
          (c.times-power.ensures.lower c.loop-step.invariant.low.positive t.positive);
      high = power_size c.loop-step.power.hi c.exact_span-t.result.hi c.times-power.result.hi c.loop-step._step c.loop-step.invariant.high t'
          (c.times-power.ensures.upper c.loop-step.invariant.high.positive t'.positive);
    }
