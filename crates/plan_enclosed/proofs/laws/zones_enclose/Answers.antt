use Rattle.plan_enclosed.proofs.Enclosed.{zones_enclose}
use Rattle.plan_enclosed.proofs.laws.zones_enclose.Goals as goal

pub returns : goal.returns
returns c = zones_enclose c.differences_have_a_step.ensures
