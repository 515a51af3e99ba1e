use Rattle.plan_difference.proofs.DifferenceBalance.{difference_solves_it}
use Rattle.plan_difference.proofs.exact_step.difference_solves_it.Goals as goal

pub returns : goal.returns
returns c = difference_solves_it
