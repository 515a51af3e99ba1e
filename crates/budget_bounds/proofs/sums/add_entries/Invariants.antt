use Rattle.budget_bounds.proofs.Common.{◌≡◌, entry_pair, drop, map, filter, parts, AreSums, Term, capped_term, is_term, plus_pair, sum_of}
use Rattle.budget_bounds.proofs.sums.add_entries.Given as goal

abbrev pub invariant-loop-x : goal.invariant-loop-x
invariant-loop-x g l = record {
  value : (t : Term) → capped_term (plus_pair (sum_of l.sums t)
      (parts l.dir (map (entry_pair g.E.Branch.flow l.own.low l.own.high) (filter (λ x. is_term t (g.E.Entry.of x)) (drop l.x-index l.entries))))) ≡
      capped_term (plus_pair (sum_of l.fn.sums t)
      (parts l.dir (map (entry_pair g.E.Branch.flow l.own.low l.own.high) (filter (λ x. is_term t (g.E.Entry.of x)) l.entries))));
  sums : AreSums l.sums;
}
