use Rattle.std.proofs.Common.{◌-◌}
use Rattle.conductance_bounds.proofs.{Arithmetic.size_reach, PartBounds.steady_bounds}
use Rattle.conductance_bounds.proofs.part.sum_at.Goals as goal

pub returns-then-period-clause-bounds : goal.returns-then-period-clause-bounds
returns-then-period-clause-bounds c = steady_bounds c.args.period.now (c.args.n - 1) _ c.if-period.true c.sum_of.ensures.bounds

pub returns-then-period-clause-reach : goal.returns-then-period-clause-reach
returns-then-period-clause-reach c = size_reach _ 5000 c.sum_of.ensures.factors.low_size c.sum_of.ensures.factors.high_size

pub returns-else-period-clause-reach : goal.returns-else-period-clause-reach
returns-else-period-clause-reach c = size_reach _ 5000 c.sum_of-else-period.ensures.factors.low_size c.sum_of-else-period.ensures.factors.high_size
