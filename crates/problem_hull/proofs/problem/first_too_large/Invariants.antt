use Rattle.problem_hull.proofs.Common.{◌≡◌, drop, first_refusal}
use Rattle.problem_hull.proofs.problem.first_too_large.Given as goal

abbrev pub invariant-loop-cell : goal.invariant-loop-cell
invariant-loop-cell l = first_refusal (drop l.cell-index l.cells) ≡ first_refusal l.cells
