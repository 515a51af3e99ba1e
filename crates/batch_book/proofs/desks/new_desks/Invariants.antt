use Rattle.batch_book.proofs.Common.{◌≡◌, All, vec_len, IsPassOf}
use Rattle.batch_book.proofs.desks.new_desks.Given as goal

abbrev pub invariant-loop-worker : goal.invariant-loop-worker
invariant-loop-worker g l = record {
  pass : IsPassOf l.queue l.pass;
  count : vec_len l.desks ≡ l._worker;
  each : All (λ d. IsPassOf l.queue d.pass × (d.book.0 ≡ l.jobs)) l.desks.items;
}
