use Rattle.engine.proofs.Common.{◌∙◌, ℕ, List, arith, length-append, subst, sym, batch_of, folder_name, reads, whole, job_of}
use Rattle.engine.proofs.Certifying.{jobs_read_more, tasks_more}
use Rattle.engine.proofs.batch_reading.read_jobs.Goals as goal

pub loop-name-preserved : goal.loop-name-preserved
loop-name-preserved g c = record {
  since = λ files agree. c.loop-name.invariant.since files (c.in_ok-job.ensures.folder.since files agree);
  counts = c.in_ok-job.ensures.folder.counts ∙ c.loop-name.invariant.counts;
  reads = λ files agree. rw c.in_ok-push.ensures.items
      (jobs_read_more (job_of (batch_of c.args.asked) files) c.args.names.now c.loop-name.name-index c.name-item.result c.loop-name.jobs.items c.in_ok-job.job
      c.loop-name-test.true c.name-item.is (c.loop-name.invariant.reads files (c.in_ok-job.ensures.folder.since files agree))
      (c.in_ok-job.ensures.reads files agree));
  still = λ name h. c.in_ok-job.ensures.folder.still name (c.loop-name.invariant.still name h);
  tasks = rw c.in_ok-push.ensures.items (tasks_more c.loop-name.jobs.items c.in_ok-job.job c.loop-name.invariant.tasks c.in_ok-job.ensures.task);
  whole = rw (c.in_ok-push.ensures.items, length-append) (omega arith);
}

pub read_job-requires-clause-may : goal.read_job-requires-clause-may
read_job-requires-clause-may g c =
    c.loop-name.invariant.still _ (subst (λ (name : List ℕ). g.F.Folder.may c.args.folder.now (folder_name name)) (sym c.name-item.is)
    (c.requires.may c.loop-name.name-index c.name-item.result c.loop-name-test.true))
