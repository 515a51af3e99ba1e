use Rattle.barrier_vector.specs.{AreSelfDrops}
use Rattle.barrier_vector.proofs.roots.self_roots.Given as goal

abbrev pub invariant-loop-c : goal.invariant-loop-c
invariant-loop-c l = AreSelfDrops l.labels l.c l.own.items
