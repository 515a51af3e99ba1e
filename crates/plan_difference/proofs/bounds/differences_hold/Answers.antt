use Rattle.plan_difference.proofs.Differences.{differences_above, differences_below}
use Rattle.plan_difference.proofs.bounds.differences_hold.Goals as goal

pub returns-clause-below : goal.returns-clause-below
returns-clause-below c = differences_below

pub returns-clause-above : goal.returns-clause-above
returns-clause-above c = differences_above
