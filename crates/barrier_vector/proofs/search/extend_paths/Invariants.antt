use Rattle.barrier_vector.proofs.Gathering.{Extended}
use Rattle.barrier_vector.proofs.search.extend_paths.Given as goal

abbrev pub invariant-loop-c : goal.invariant-loop-c
invariant-loop-c l = Extended l.p l.q l.levels l.level l.frontier l.initial.paths l.paths l.c-index
