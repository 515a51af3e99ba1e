use Rattle.conductance_bounds.proofs.Common.{AtMost-refl, size, value}
use Rattle.conductance_bounds.proofs.Arithmetic.{number_bounds, number_reach}
use Rattle.conductance_bounds.proofs.interval.exact_span.Goals as goal

pub returns-clause-ordered : goal.returns-clause-ordered
returns-clause-ordered c = record { low = c.of_dec-x.ensures.decimal; high = c.of_dec-x.ensures.decimal; order = AtMost-refl (value c.of_dec-x.result) }

pub returns-clause-bounds : goal.returns-clause-bounds
returns-clause-bounds c = number_bounds c.of_dec-x.result (size c.args.a) c.of_dec-x.ensures.decimal c.of_dec-x.ensures.same

pub returns-clause-reach : goal.returns-clause-reach
returns-clause-reach c = number_reach _ c.args.a.exp (record { above = c.requires.number.above; below = c.requires.number.below }) c.of_dec-x.ensures.exponent c.of_dec-x.ensures.exponent
