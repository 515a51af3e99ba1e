use Rattle.plan_conductances.proofs.ExampleMet.{example_is_met}
use Rattle.plan_conductances.proofs.laws.worked_example.Goals as goal

pub returns : goal.returns
returns c = example_is_met
