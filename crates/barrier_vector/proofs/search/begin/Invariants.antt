use Rattle.barrier_vector.specs.{AreBegun}
use Rattle.barrier_vector.proofs.search.begin.Given as goal

abbrev pub invariant-loop-c : goal.invariant-loop-c
invariant-loop-c l = AreBegun l.own l.c l.initial.levels l.levels l.paths l.roots.items
