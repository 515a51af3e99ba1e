use Rattle.plan_enclosed.proofs.Enclosed.{sources_enclose}
use Rattle.plan_enclosed.proofs.laws.sources_enclose.Goals as goal

pub returns : goal.returns
returns c = sources_enclose c.difference_solves_it.ensures c.differences_have_a_step.ensures
