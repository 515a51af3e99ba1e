use Rattle.barrier_vector.specs.{IsNearestOrNone}
use Rattle.barrier_vector.proofs.search.parent.Given as goal

abbrev pub invariant-loop-x : goal.invariant-loop-x
invariant-loop-x l = IsNearestOrNone l.links l.levels l.level l.x-index l.best
