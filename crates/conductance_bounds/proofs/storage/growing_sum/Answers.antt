use Rattle.conductance_bounds.proofs.Common.{◌*◌, arith, ints, size}
use Rattle.conductance_bounds.proofs.Multipliers.{multiplier_size, sum_start, sum_next, sum_size, sizes_reach}
use Rattle.conductance_bounds.proofs.storage.growing_sum.Goals as goal

pub loop-step-init : goal.loop-step-init
loop-step-init c =
    let one = c.one-one.ensures in
    record {
      ordered = one.ordered;
      bounds = sum_start (size c.args.tsmult) _ one.bounds;
      low = record { positive = one.low.positive; above = one.low.above; below = omega (arith, ints, one.low.below) };
      high = record { positive = one.high.positive; above = one.high.above; below = omega (arith, ints, one.high.below) };
    }

pub times-requires-clause-near : goal.times-requires-clause-near
times-requires-clause-near c = omega (
  arith,
  sizes_reach c.loop-step.sum 17 (5 * c.loop-step._step) 5000 (omega arith)
      (omega (arith, c.loop-step-test.true, c.requires.slow.few)) c.loop-step.invariant.low c.loop-step.invariant.high,
  c.exact_span-t.ensures.reach,
)

pub plus-sum-requires-clause-near : goal.plus-sum-requires-clause-near
plus-sum-requires-clause-near c = omega (
  arith,
  sizes_reach c.loop-step.sum 17 (5 * c.loop-step._step) 5000 (omega arith)
      (omega (arith, c.loop-step-test.true, c.requires.slow.few)) c.loop-step.invariant.low c.loop-step.invariant.high,
  c.exact_span-t.ensures.reach,
  c.times.ensures.reach,
  c.one-one.ensures.reach,
)

pub loop-step-preserved : goal.loop-step-preserved
loop-step-preserved c =
    let t = multiplier_size c.exact_span-t.result.lo c.args.tsmult _ c.exact_span-t.ensures.ordered.low c.exact_span-t.ensures.exact.0 c.requires.slow in
    let t' = multiplier_size c.exact_span-t.result.hi c.args.tsmult _ c.exact_span-t.ensures.ordered.high c.exact_span-t.ensures.exact.1 c.requires.slow in
    let p = c.times.ensures.lower c.loop-step.invariant.low.positive t.positive in
    let p' = c.times.ensures.upper c.loop-step.invariant.high.positive t'.positive in
    let one = c.one-one.ensures in
    record {
      ordered = c.plus-sum.ensures.ordered;
      bounds = sum_next (size c.args.tsmult) c.loop-step._step _ (c.plus-sum.ensures.bounds _ _ (c.times.ensures.bounds _ _ c.loop-step.invariant.bounds c.exact_span-t.ensures.bounds) one.bounds);
      low = sum_size c.loop-step.sum.lo c.exact_span-t.result.lo c.times.result.lo c.one-one.result.lo c.plus-sum.result.lo c.loop-step._step
          c.loop-step.invariant.low t one.low p (c.plus-sum.ensures.lower p.positive one.low.positive);
      high = sum_size c.loop-step.sum.hi c.exact_span-t.result.hi c.times.result.hi c.one-one.result.hi c.plus-sum.result.hi c.loop-step._step
          c.loop-step.invariant.high t' one.high p' (c.plus-sum.ensures.upper p'.positive one.high.positive);
    }
