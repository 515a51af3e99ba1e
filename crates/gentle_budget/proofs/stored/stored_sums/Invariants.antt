use Rattle.gentle_budget.proofs.Common.{Entries, In, Out, stored_pair}
use Rattle.gentle_budget.proofs.Sums.{IsSumTo}
use Rattle.gentle_budget.proofs.stored.stored_sums.Given as goal

abbrev pub invariant-loop-index : goal.invariant-loop-index
invariant-loop-index l = record {
  into : IsSumTo In (λ (e : Entries). stored_pair l.model l.layers l.tables.digits l.at l.old l.listed e.id) l.problem l.index l.sums.into;
  out : IsSumTo Out (λ (e : Entries). stored_pair l.model l.layers l.tables.digits l.at l.old l.listed e.id) l.problem l.index l.sums.out;
}
