use Rattle.plan_step.proofs.BranchBounds.{drains_are_enclosed, evaps_are_enclosed, rivers_are_enclosed}
use Rattle.plan_step.proofs.laws.branches_are_enclosed.Goals as goal

pub returns-clause-rivers : goal.returns-clause-rivers
returns-clause-rivers c = rivers_are_enclosed

pub returns-clause-drains : goal.returns-clause-drains
returns-clause-drains c = drains_are_enclosed

pub returns-clause-evaps : goal.returns-clause-evaps
returns-clause-evaps c = evaps_are_enclosed
