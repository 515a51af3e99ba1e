use Rattle.plan_histories.proofs.PlannedSteps.{planned_steps}
use Rattle.plan_histories.proofs.laws.planned_steps.Goals as goal

pub returns : goal.returns
returns c = planned_steps
