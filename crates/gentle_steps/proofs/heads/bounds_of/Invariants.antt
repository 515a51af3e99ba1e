use Rattle.gentle_steps.proofs.Common.{◌≡◌, map, bound_at, Entries, take}
use Rattle.gentle_steps.proofs.heads.bounds_of.Given as goal

abbrev pub invariant-loop-k : goal.invariant-loop-k
invariant-loop-k l = l.bounds.items ≡ map (λ (e : Entries). bound_at l.listed e.id) (take l.k l.problem)
