use Rattle.gentle_terms.proofs.StepTerms.{history_terms_lie_between}
use Rattle.gentle_terms.proofs.laws.history_terms_lie_between.Goals as goal

pub returns : goal.returns
returns c = history_terms_lie_between
