use Rattle.std.proofs.Common.{refl}
use Rattle.engine.proofs.job.end_of_task.Goals as goal

pub end_by-requires-clause-pairs : goal.end_by-requires-clause-pairs
end_by-requires-clause-pairs c = rw c.if-task.true refl

pub end_by-requires-2-clause-pairs : goal.end_by-requires-2-clause-pairs
end_by-requires-2-clause-pairs c = rw c.if-task.false refl
