use Rattle.std.proofs.Common.{◌≡◌, All}
use Rattle.batch_book.proofs.batch.gather_all.Given as goal

abbrev pub invariant-loop-desk : goal.invariant-loop-desk
invariant-loop-desk g l = record {
  jobs : l.book.0 ≡ l.initial.book.0;
  rest : All (λ d. d.book.0 ≡ l.initial.book.0) l.desks.items;
}

abbrev pub decreases-loop-desk : goal.decreases-loop-desk
decreases-loop-desk g l = goal.left-loop-desk g l
