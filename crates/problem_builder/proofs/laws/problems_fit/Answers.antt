use Rattle.problem_builder.proofs.{Problems.is_problem, Steps.cells_of, TimesOf.time_of}
use Rattle.problem_builder.proofs.laws.problems_fit.Goals as goal

pub returns : goal.returns
returns c = λ m s at old p valid contains grid h. is_problem m s at old valid (time_of m at valid contains) grid p (cells_of m s at old p h)
