use Rattle.engine.proofs.Common.{batch_of, Global, Job, Jobs, Vec, jobs_read}
use Rattle.engine.proofs.{BatchEnds.valid_jobs, Ends.ends_defined, Ends.ends_read, Ends.ends_unread, Ends.puts_more}
use Rattle.engine.proofs.batching.put_batch.Goals as goal

pub returns-in-Ok-clause-serves : goal.returns-in-Ok-clause-serves
returns-in-Ok-clause-serves g c =
    puts_more g.K.Sink.leads c.put_jobs.ensures (λ more m files agree. ends_read (jobs_read files (batch_of c.args.asked)) Jobs c.in-Ok.jobs.items (c.in-Ok.ensures.reads files agree)
    (ends_defined (rw c.as_slice.ensures.value at m) (valid_jobs c.in-Ok.jobs.items c.in-Ok.ensures.tasks)))

pub returns-in-Err-clause-serves : goal.returns-in-Err-clause-serves
returns-in-Err-clause-serves g c =
    puts_more g.K.Sink.leads c.end_reading.ensures (λ more m files agree. ends_unread (jobs_read files (batch_of c.args.asked)) Jobs (λ (v : Vec Job Global).
    v.items) (λ x. tt) c.in-Err.fault (c.in-Err.ensures.reads files agree) c.in-Err.ensures.folder.counts m)
