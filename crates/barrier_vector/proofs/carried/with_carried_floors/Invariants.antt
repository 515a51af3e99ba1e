use Rattle.barrier_vector.proofs.Common.{HasEach, None, Low, IsBoundOrNone}
use Rattle.barrier_vector.proofs.carried.with_carried_floors.Given as goal

abbrev pub invariant-loop-c : goal.invariant-loop-c
invariant-loop-c l = HasEach None (IsBoundOrNone Low l.p) l.c l.floors.items
