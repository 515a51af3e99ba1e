use Rattle.engine.proofs.Common.{Err, Ok, rules, batch_of}
use Rattle.engine.proofs.Certifying.{job_read}
use Rattle.engine.proofs.batch_reading.read_job.Goals as goal

pub returns-in-Ok-clause-reads : goal.returns-in-Ok-clause-reads
returns-in-Ok-clause-reads g c = λ files agree. job_read (batch_of c.args.asked) files c.args.name.now _ _ (Ok c.in-Ok.model) (search rules) (search rules) (c.in-Ok.ensures.model files agree)

pub returns-in-Err-Refused-clause-reads : goal.returns-in-Err-Refused-clause-reads
returns-in-Err-Refused-clause-reads g c = λ files agree. job_read (batch_of c.args.asked) files c.args.name.now _ _ (Err c.in-Err-Refused.refusal)
    (search rules) (search rules) (rw c.in-Err-Refused.field-0-is at (c.in-Err-Refused.ensures.model files agree))
