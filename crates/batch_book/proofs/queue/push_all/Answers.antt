use Rattle.std.proofs.Common.{◌∙◌}
use Rattle.batch_book.proofs.Queued.{push_keeps_once, learned_items_are_few, numbers_step}
use Rattle.batch_book.proofs.queue.push_all.Goals as goal

pub push_as-requires-clause-rule : goal.push_as-requires-clause-rule
push_as-requires-clause-rule g c = (push_keeps_once _ _ _ _ _ _ (c.loop-job.invariant.left ∙ numbers_step _ _ c.loop-job-test.true), learned_items_are_few _ _ _)
