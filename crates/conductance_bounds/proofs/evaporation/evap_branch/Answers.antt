use Rattle.conductance_bounds.proofs.{Capped.small_encloses, LayerBounds.evap_encloses}
use Rattle.conductance_bounds.proofs.evaporation.evap_branch.Goals as goal

pub returns-clause-rounded : goal.returns-clause-rounded
returns-clause-rounded c = c.rounded_pair.ensures.bounds _ (c.over.ensures.bounds _ _ (c.times-rate.ensures.bounds _ _ c.exact_span.ensures.bounds c.area.ensures.bounds) c.exact_span-2.ensures.bounds)

pub returns-clause-encloses : goal.returns-clause-encloses
returns-clause-encloses c = small_encloses _ c.args.s _ _ (returns-clause-rounded c) (evap_encloses c.args.evtr c.args.exdp c.args.delr c.args.delc c.args.s c.requires.exdp)
