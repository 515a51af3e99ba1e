use Rattle.gentle_problem.proofs.Enclosed.{problems_enclose}
use Rattle.gentle_problem.proofs.laws.problems_enclose.Goals as goal

pub returns : goal.returns
returns c = problems_enclose
