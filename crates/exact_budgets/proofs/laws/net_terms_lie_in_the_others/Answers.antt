use Rattle.exact_budgets.proofs.Bounds.{net_terms_lie_in_the_others}
use Rattle.exact_budgets.proofs.laws.net_terms_lie_in_the_others.Goals as goal

pub returns : goal.returns
returns c = net_terms_lie_in_the_others
