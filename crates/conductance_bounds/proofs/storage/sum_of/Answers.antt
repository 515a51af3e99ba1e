use Rattle.std.proofs.Common.{arith}
use Rattle.conductance_bounds.proofs.SpanBounds.{equal_sums}
use Rattle.conductance_bounds.proofs.storage.sum_of.Goals as goal

pub returns-then-is_one-clause-bounds : goal.returns-then-is_one-clause-bounds
returns-then-is_one-clause-bounds c = equal_sums c.args.tsmult c.args.n c.of_units_dn-whole.result c.if-is_one.ensures c.requires.steps.0 c.requires.steps.1
    c.of_units_dn-whole.ensures.nearest.decimal (c.of_units_dn-whole.ensures.exact (omega (arith, c.requires.steps.1)))
