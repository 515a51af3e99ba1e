use Rattle.exact_solutions.proofs.LooseSteps.{afloat_have_another}
use Rattle.exact_solutions.proofs.loose.afloat_have_another.Goals as goal

pub returns : goal.returns
returns c = afloat_have_another
