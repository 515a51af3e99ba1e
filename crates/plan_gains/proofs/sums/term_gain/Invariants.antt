use Rattle.plan_gains.proofs.Common.{◌≡◌, IsSum, lower_at, upper_at}
use Rattle.plan_gains.proofs.TermSums.{sums_below}
use Rattle.plan_gains.proofs.sums.term_gain.Given as goal

abbrev pub invariant-loop-c : goal.invariant-loop-c
invariant-loop-c l = record {
  value : l.sum ≡ sums_below l.fn.base l.fn.p (lower_at l.fn.bounds) (upper_at l.fn.bounds) l.dir l.term l.c;
  sum : IsSum l.sum;
}
