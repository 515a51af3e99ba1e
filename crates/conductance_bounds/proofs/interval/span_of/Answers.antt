use Rattle.conductance_bounds.proofs.Arithmetic.{size_reach, within_bounds}
use Rattle.conductance_bounds.proofs.interval.span_of.Goals as goal

pub returns-clause-ordered : goal.returns-clause-ordered
returns-clause-ordered c = record { low = c.requires.thick.low; high = c.requires.thick.high; order = c.requires.thick.order }

pub returns-clause-bounds : goal.returns-clause-bounds
returns-clause-bounds c = λ f. within_bounds c.args.lo c.args.hi f

pub returns-clause-reach : goal.returns-clause-reach
returns-clause-reach c = size_reach _ 100 c.requires.thick.low_size c.requires.thick.high_size
