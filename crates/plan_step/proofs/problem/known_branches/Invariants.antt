use Rattle.plan_step.proofs.Common.{◌≡◌, map, take, known_branch}
use Rattle.plan_step.proofs.problem.known_branches.Given as goal

abbrev pub invariant-loop-i : goal.invariant-loop-i
invariant-loop-i l = l.branches.items ≡ map (known_branch l.old) (take l.i l.fixed)
