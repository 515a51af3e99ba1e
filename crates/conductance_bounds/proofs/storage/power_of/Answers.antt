use Rattle.conductance_bounds.proofs.SpanBounds.{equal_powers}
use Rattle.conductance_bounds.proofs.storage.power_of.Goals as goal

pub returns-then-is_one-clause-bounds : goal.returns-then-is_one-clause-bounds
returns-then-is_one-clause-bounds c = equal_powers c.args.tsmult c.args.n c.one.result c.if-is_one.ensures c.one.ensures.bounds
