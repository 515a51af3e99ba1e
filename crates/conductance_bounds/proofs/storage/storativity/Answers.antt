use Rattle.decimal_input.specs.{size}
use Rattle.conductance_bounds.proofs.StorageBounds.{thick_bounds}
use Rattle.conductance_bounds.proofs.storage.storativity.Goals as goal

pub returns-in-Some-clause-bounds : goal.returns-in-Some-clause-bounds
returns-in-Some-clause-bounds c = λ f. thick_bounds (size c.args.ss) c.args.thick c.in-Some.lo c.in-Some.hi f _ c.in-Some.is
    (c.times.ensures.bounds _ _ c.exact_span-ss.ensures.bounds (c.span_of.ensures.bounds f))
