use Rattle.gentle_problem.proofs.Made.{problems_fit}
use Rattle.gentle_problem.proofs.laws.problems_fit.Goals as goal

pub returns : goal.returns
returns c = problems_fit
