use Rattle.conductance_bounds.proofs.horizontal.in_a_row.Goals as goal

pub returns-clause-bounds : goal.returns-clause-bounds
returns-clause-bounds c = λ t u p q. c.over.ensures.bounds _ _ c.one.ensures.bounds (c.plus.ensures.bounds t u p q)
