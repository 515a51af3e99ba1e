use Rattle.engine.proofs.Common.{NeverCut, lacks_at_first, IsBatch, batch_run, IsJobEnd}
use Rattle.engine.proofs.{BatchEnds.jobs_ended, Ends.puts_more}
use Rattle.engine.proofs.batching.put_jobs.Goals as goal

pub returns-in-Ok : goal.returns-in-Ok
returns-in-Ok g c = puts_more g.K.Sink.leads c.put_ends.ensures (λ more m.
    batch_run IsJobEnd c.args.jobs.now c.in-Ok.ends.items c.put_ends.result more (jobs_ended c.args.jobs.now _ c.in-Ok.ends.items c.new.ensures c.in-Ok.ensures) m)

pub returns-in-Err : goal.returns-in-Err
returns-in-Err g c = puts_more g.K.Sink.leads c.put_memory.ensures (λ more m. lacks_at_first (IsBatch IsJobEnd c.args.jobs.now) NeverCut c.put_memory.result more m)
