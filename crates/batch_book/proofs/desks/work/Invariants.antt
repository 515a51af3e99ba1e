use Rattle.batch_book.proofs.Common.{◌≡◌, IsPassOf}
use Rattle.batch_book.proofs.desks.work.Given as goal

abbrev pub invariant-loop-turn : goal.invariant-loop-turn
invariant-loop-turn g l = record {
  pass : IsPassOf l.queue l.desk.pass;
  jobs : l.desk.book.0 ≡ l.jobs;
}
