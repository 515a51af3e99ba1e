use Rattle.barrier_vector.proofs.Common.{[], Spreads, FrontLeads}
use Rattle.barrier_vector.proofs.spread.spread.Given as goal

abbrev pub invariant-loop-c : goal.invariant-loop-c
invariant-loop-c l = Spreads (FrontLeads l.p l.frontier l.c-index) l.mark l.initial.marks l.marks [] l.next.items
