use Rattle.problem_builder.proofs.Common.{no_bound, Filled, IsKept}
use Rattle.problem_builder.proofs.given.kept_heads.Given as goal

abbrev pub invariant-loop-cell : goal.invariant-loop-cell
invariant-loop-cell l = Filled (IsKept l.model l.given.period) no_bound l.cell l.bounds.items
