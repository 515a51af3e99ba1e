use Rattle.plan_wells.proofs.Between.{planned_lie_between}
use Rattle.plan_wells.proofs.laws.planned_lie_between.Goals as goal

pub returns : goal.returns
returns c = planned_lie_between
