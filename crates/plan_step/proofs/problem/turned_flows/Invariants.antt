use Rattle.plan_step.proofs.Common.{◌≡◌, map, take, turned}
use Rattle.plan_step.proofs.problem.turned_flows.Given as goal

abbrev pub invariant-loop-i : goal.invariant-loop-i
invariant-loop-i l = l.turned_round.items ≡ map turned (take l.i l.added)
