use Rattle.check_run.proofs.Common.{◌≡◌, map, take, Entries, bound_at}
use Rattle.check_run.proofs.variables.bounds_of.Given as goal

abbrev pub invariant-loop-k : goal.invariant-loop-k
invariant-loop-k l = l.bounds.items ≡ map (λ (e : Entries). bound_at l.heads e.id) (take l.k l.problem)
