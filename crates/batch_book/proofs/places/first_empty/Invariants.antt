use Rattle.batch_book.proofs.Common.{ℕ, ◌<◌, HasEnd}
use Rattle.batch_book.proofs.places.first_empty.Given as goal

abbrev pub invariant-loop-place : goal.invariant-loop-place
invariant-loop-place g l = (k : ℕ) → k < l.place → HasEnd l.places k
