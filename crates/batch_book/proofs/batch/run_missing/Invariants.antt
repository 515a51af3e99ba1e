use Rattle.batch_book.proofs.Common.{◌≡◌, IsMissing}
use Rattle.batch_book.proofs.Placed.{to_go}
use Rattle.batch_book.proofs.batch.run_missing.Given as goal

abbrev pub invariant-loop-next : goal.invariant-loop-next
invariant-loop-next g l = record {
  jobs : l.book.0 ≡ l.jobs;
  least : IsMissing l.book.1 (g.J.Jobs.number l.jobs) l.next;
}

abbrev pub decreases-loop-next : goal.decreases-loop-next
decreases-loop-next g l = to_go (g.J.Jobs.number l.jobs) l.next
