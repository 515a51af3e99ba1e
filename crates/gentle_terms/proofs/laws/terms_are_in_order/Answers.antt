use Rattle.gentle_terms.proofs.StepTerms.{terms_are_in_order}
use Rattle.gentle_terms.proofs.laws.terms_are_in_order.Goals as goal

pub returns : goal.returns
returns c = terms_are_in_order
