use Rattle.plan_wells.proofs.Between.{alike_have_one_plan, planned_are_alike}
use Rattle.plan_wells.proofs.laws.planned_are_alike.Goals as goal

pub returns-clause-alike : goal.returns-clause-alike
returns-clause-alike c = planned_are_alike

pub returns-clause-one_plan : goal.returns-clause-one_plan
returns-clause-one_plan c = alike_have_one_plan
