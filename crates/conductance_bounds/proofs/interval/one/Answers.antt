use Rattle.conductance_bounds.proofs.Common.{inl, arith, ints, AtMost-refl}
use Rattle.conductance_bounds.proofs.{Arithmetic.size_reach, SpanBounds.one_bounds}
use Rattle.conductance_bounds.proofs.interval.one.Goals as goal

pub returns-clause-ordered : goal.returns-clause-ordered
returns-clause-ordered c = record { low = inl (omega arith, omega arith); high = inl (omega arith, omega arith); order = AtMost-refl _ }

pub returns-clause-bounds : goal.returns-clause-bounds
returns-clause-bounds c = one_bounds

pub returns-clause-reach : goal.returns-clause-reach
returns-clause-reach c = size_reach _ 17 (record { positive = omega arith; above = omega (arith, ints); below = omega (arith, ints) })
    (record { positive = omega arith; above = omega (arith, ints); below = omega (arith, ints) })
