use Rattle.conductance_bounds.proofs.ModelBounds.{storages_enclose, recharges_enclose, evaps_enclose}
use Rattle.conductance_bounds.proofs.laws.sources_enclose.Goals as goal

pub returns-clause-storages : goal.returns-clause-storages
returns-clause-storages c = λ m. storages_enclose m

pub returns-clause-recharges : goal.returns-clause-recharges
returns-clause-recharges c = λ m. recharges_enclose m

pub returns-clause-evaps : goal.returns-clause-evaps
returns-clause-evaps c = λ m. evaps_enclose m
