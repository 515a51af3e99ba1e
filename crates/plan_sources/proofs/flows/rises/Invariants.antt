use Rattle.plan_sources.proofs.Common.{map, rise, take, ◌≡◌}
use Rattle.plan_sources.proofs.flows.rises.Given as goal

abbrev pub invariant-loop-i : goal.invariant-loop-i
invariant-loop-i l = l.heads.items ≡ map rise (take l.i l.differences)
