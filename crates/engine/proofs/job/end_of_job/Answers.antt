use Rattle.std.proofs.Common.{Err, Ok, rules}
use Rattle.engine.proofs.BatchEnds.{end_of_read}
use Rattle.engine.proofs.job.end_of_job.Goals as goal

pub returns-in-Ok : goal.returns-in-Ok
returns-in-Ok c = end_of_read c.args.job.now _ (Ok c.in-Ok.task) _ c.in-Ok.is (search rules) c.end_of_task.ensures

pub returns-in-Err : goal.returns-in-Err
returns-in-Err c = end_of_read c.args.job.now _ (Err c.in-Err.refusal) _ c.in-Err.is (search rules) c.end_of_refusal.ensures
