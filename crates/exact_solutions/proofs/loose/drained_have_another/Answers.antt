use Rattle.exact_solutions.proofs.LooseSteps.{drained_have_another}
use Rattle.exact_solutions.proofs.loose.drained_have_another.Goals as goal

pub returns : goal.returns
returns c = drained_have_another
