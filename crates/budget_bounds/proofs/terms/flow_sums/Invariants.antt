use Rattle.budget_bounds.proofs.Common.{◌≡◌, In, Out, Term, lower_at, upper_at, AreSums, sum_of}
use Rattle.budget_bounds.proofs.Caps.{sums_below}
use Rattle.budget_bounds.proofs.terms.flow_sums.Given as goal

abbrev pub invariant-loop-c : goal.invariant-loop-c
invariant-loop-c l = record {
  into : (t : Term) → sum_of l.into t ≡ sums_below l.fn.p (lower_at l.fn.bounds) (upper_at l.fn.bounds) In t l.c;
  into_sums : AreSums l.into;
  out : (t : Term) → sum_of l.out t ≡ sums_below l.fn.p (lower_at l.fn.bounds) (upper_at l.fn.bounds) Out t l.c;
  out_sums : AreSums l.out;
}
