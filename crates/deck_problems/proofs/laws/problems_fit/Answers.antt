use Rattle.deck_problems.proofs.Enclosing.{problem_fits, problem_encloses}
use Rattle.deck_problems.proofs.laws.problems_fit.Goals as goal

pub returns : goal.returns
returns c = record { fit = problem_fits c.problems_fit.ensures; enclose = problem_encloses }
