use Rattle.batch_book.proofs.Common.{◌≡◌, ◌-◌, view, IsPassOf, numbers_from}
use Rattle.batch_book.proofs.queue.push_all.Given as goal

abbrev pub invariant-loop-job : goal.invariant-loop-job
invariant-loop-job g l = record {
  pass : IsPassOf l.queue l.pass;
  left : view l.pass ≡ numbers_from l.job (l.count - l.job);
}
