use Rattle.conductance_bounds.proofs.horizontal.along_column.Goals as goal

pub returns-clause-bounds : goal.returns-clause-bounds
returns-clause-bounds c = c.times.ensures.bounds _ _ c.exact_span.ensures.bounds c.exact_span-2.ensures.bounds
