use Rattle.barrier_vector.specs.{Spreads, LinkLeads}
use Rattle.barrier_vector.proofs.spread.spread_from.Given as goal

abbrev pub invariant-loop-x : goal.invariant-loop-x
invariant-loop-x l = Spreads (LinkLeads l.links l.x-index) l.mark l.initial.marks l.marks l.initial.next.items l.next.items
