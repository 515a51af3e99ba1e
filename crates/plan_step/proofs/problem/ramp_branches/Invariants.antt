use Rattle.std.proofs.Common.{◌≡◌, map, take}
use Rattle.plan_step.proofs.problem.ramp_branches.Given as goal

abbrev pub invariant-loop-i : goal.invariant-loop-i
invariant-loop-i g l = l.branches.items ≡ map (g.E.Ramp.branch_of l.id l.base l.planned) (take l.i l.entries)
