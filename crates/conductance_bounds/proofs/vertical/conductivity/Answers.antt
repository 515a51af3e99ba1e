use Rattle.decimal_input.specs.{size}
use Rattle.conductance_bounds.proofs.LayerBounds.{ratio_bounds}
use Rattle.conductance_bounds.proofs.vertical.conductivity.Goals as goal

pub returns-then-a-clause-bounds : goal.returns-then-a-clause-bounds
returns-then-a-clause-bounds c = ratio_bounds c.args.a.now.ratio (size c.args.a.now.hk) (size c.args.a.now.vka) _ c.if-a.true
    (c.over.ensures.bounds _ _ c.exact_span.ensures.bounds c.exact_span-vka.ensures.bounds)
