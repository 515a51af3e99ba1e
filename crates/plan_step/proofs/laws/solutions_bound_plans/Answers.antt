use Rattle.plan_step.proofs.Enclosing.{solutions_bound_plans}
use Rattle.plan_step.proofs.laws.solutions_bound_plans.Goals as goal

pub returns : goal.returns
returns c = solutions_bound_plans
