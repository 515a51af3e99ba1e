use Rattle.engine.proofs.Common.{List, PlanChecking, plan_steps_read, ListedPlanStep}
use Rattle.engine.proofs.Ends.{ends_defined, ends_read, ends_unread, puts_more}
use Rattle.engine.proofs.plan_checking.check_task.Goals as goal

pub returns-in-Ok-clause-answers : goal.returns-in-Ok-clause-answers
returns-in-Ok-clause-answers g c =
    let k = c.args.task.now in
    puts_more g.K.Sink.leads c.put_plan_check-status.ensures (λ more m files agree.
    ends_read (plan_steps_read c.args.between files c.args.file.now k) (PlanChecking k) c.in-Ok.listing (c.in-Ok.ensures.reads files agree)
    (ends_defined m (c.requires.task, c.requires.quick, c.in-Ok.ensures.listed)))

pub returns-in-Err-clause-answers : goal.returns-in-Err-clause-answers
returns-in-Err-clause-answers g c =
    let k = c.args.task.now in
    puts_more g.K.Sink.leads c.end_reading.ensures (λ more m files agree.
    ends_unread (plan_steps_read c.args.between files c.args.file.now k) (PlanChecking k) (λ (l : List ListedPlanStep). l) (λ l. tt) c.in-Err.fault
    (c.in-Err.ensures.reads files agree) c.in-Err.ensures.folder.counts m)
