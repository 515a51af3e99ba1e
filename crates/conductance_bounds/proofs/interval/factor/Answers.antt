use Rattle.conductance_bounds.proofs.Arithmetic.{size_reach}
use Rattle.conductance_bounds.proofs.interval.factor.Goals as goal

pub returns-clause-ordered : goal.returns-clause-ordered
returns-clause-ordered c = record { low = c.requires.low; high = c.requires.high; order = c.requires.order }

pub returns-clause-bounds : goal.returns-clause-bounds
returns-clause-bounds c = λ t p q. record { lower = p; upper = q }

pub returns-clause-reach : goal.returns-clause-reach
returns-clause-reach c = λ n f. size_reach _ n f.low_size f.high_size
