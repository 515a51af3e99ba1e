use Rattle.batch_book.proofs.Common.{◌≡◌, ◌++◌, those_there}
use Rattle.batch_book.proofs.book.Book.into_ends.Given as goal

abbrev pub invariant-loop-place : goal.invariant-loop-place
invariant-loop-place g l = l.ends.items ++ those_there l.place-iterator.rest.items ≡ those_there l.initial.place-iterator.rest.items
