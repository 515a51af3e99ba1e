use Rattle.plan_difference.proofs.DifferenceExists.{difference_step_exists}
use Rattle.plan_difference.proofs.exact_step.difference_step_exists.Goals as goal

pub returns : goal.returns
returns c = difference_step_exists
