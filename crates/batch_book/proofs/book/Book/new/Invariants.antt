use Rattle.batch_book.proofs.Common.{◌≡◌, ℕ, length, None, end_at}
use Rattle.batch_book.proofs.book.Book.new.Given as goal

abbrev pub invariant-loop-place : goal.invariant-loop-place
invariant-loop-place g l = record {
  count : length l.ends.items ≡ l._place;
  none : (job : ℕ) → end_at l.ends.items job ≡ None;
}
