use Rattle.conductance_bounds.proofs.horizontal.resistance.Goals as goal

pub returns-clause-bounds : goal.returns-clause-bounds
returns-clause-bounds c = λ w k t pw pk pt. c.over.ensures.bounds _ _ c.exact_span.ensures.bounds (c.times-2.ensures.bounds _ _ (c.plus.ensures.bounds _ _ pw pw) (c.times.ensures.bounds k t pk pt))
