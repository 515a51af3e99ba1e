use Rattle.plan_difference.proofs.ExampleMet.{example_is_met}
use Rattle.plan_difference.proofs.exact_step.worked_example.Goals as goal

pub returns : goal.returns
returns c = example_is_met
