use Rattle.plan_check.proofs.Enclosing.{plans_enclose}
use Rattle.plan_check.proofs.laws.certified_plans_enclose.Goals as goal

pub returns : goal.returns
returns c = plans_enclose c.start_heads.ensures.fit c.start_heads.ensures.enclose c.planned_lie_between.ensures c.plan_steps_enclose.ensures c.plan_flows_enclose.ensures
