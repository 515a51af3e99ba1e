use Rattle.deck_problems.proofs.ProblemsAlike.{problems_alike}
use Rattle.deck_problems.proofs.laws.problems_are_alike.Goals as goal

pub returns : goal.returns
returns c = problems_alike
