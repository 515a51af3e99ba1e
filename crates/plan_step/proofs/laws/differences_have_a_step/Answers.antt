use Rattle.plan_step.proofs.Enclosing.{differences_have_a_step}
use Rattle.plan_step.proofs.laws.differences_have_a_step.Goals as goal

pub returns : goal.returns
returns c = differences_have_a_step
