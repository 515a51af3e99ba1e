use Rattle.problem_hull.proofs.Common.{take, IsHull}
use Rattle.problem_hull.proofs.problem.cell_hulls.Given as goal

abbrev pub invariant-loop-i : goal.invariant-loop-i
invariant-loop-i l = IsHull (take l.i l.p) (take l.i l.q) l.cells.items
