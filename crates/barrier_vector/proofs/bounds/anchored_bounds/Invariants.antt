use Rattle.barrier_vector.proofs.Common.{HasEach, None, IsAnchoredOrNone}
use Rattle.barrier_vector.proofs.bounds.anchored_bounds.Given as goal

abbrev pub invariant-loop-c : goal.invariant-loop-c
invariant-loop-c l = HasEach None (IsAnchoredOrNone l.side l.p) l.c l.bounds.items
