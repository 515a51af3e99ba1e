use Rattle.batch_book.proofs.Queued.{takes}
use Rattle.batch_book.proofs.queue.pop_next.Goals as goal

pub pop_as-requires-clause-rule : goal.pop_as-requires-clause-rule
pop_as-requires-clause-rule g c = (takes _ _ _, λ items views once at. tt)
