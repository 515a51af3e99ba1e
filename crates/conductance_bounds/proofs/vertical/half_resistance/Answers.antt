use Rattle.conductance_bounds.proofs.vertical.half_resistance.Goals as goal

pub returns-clause-bounds : goal.returns-clause-bounds
returns-clause-bounds c = λ f. c.over.ensures.bounds _ _ (c.span_of.ensures.bounds f) (c.plus.ensures.bounds _ _ c.conductivity-k.ensures.bounds c.conductivity-k.ensures.bounds)
