use Rattle.batch_book.proofs.Common.{◌≡◌, ℕ, ◌<◌, ◌≤◌, first_of, end_at}
use Rattle.batch_book.proofs.places.fill_all.Given as goal

abbrev pub invariant-loop-place : goal.invariant-loop-place
invariant-loop-place g l = record {
  done : (k : ℕ) → k < l.place → end_at l.mine k ≡ first_of (end_at l.initial.mine k) (end_at l.initial.theirs k);
  mine : (k : ℕ) → l.place ≤ k → end_at l.mine k ≡ end_at l.initial.mine k;
  theirs : (k : ℕ) → l.place ≤ k → end_at l.theirs k ≡ end_at l.initial.theirs k;
}
