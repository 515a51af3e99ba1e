use Rattle.engine.proofs.Common.{Answers, PlanTask, Planning, parts_read, plan_asked, planned_task, subst, text_if}
use Rattle.engine.proofs.{DeckEnds.ends_decked, DeckEnds.to_plan, Ends.ends_defined, Ends.ends_read, Ends.fault_ends, Ends.puts_more}
use Rattle.engine.proofs.planning.run_plan.Goals as goal

pub returns-in-Ok-clause-serves : goal.returns-in-Ok-clause-serves
returns-in-Ok-clause-serves g c =
    let asked = plan_asked c.args.asked in
    let k = c.in-Ok.task in
    puts_more g.K.Sink.leads c.put_plan-status.ensures (λ more m files agree.
    let read = c.in-Ok.ensures.reads files agree in
    let p = read.1.0 in
    let A : PlanTask → Type 0 = λ j. Answers (Planning j) (g.F.Folder.faults c.args.folder.now) (g.F.Folder.faults c.read_plan_task.new.folder) c.put_plan-status.result more in
    ends_decked asked.limits asked.name (text_if c.args.asked.to) files (to_plan files asked Planning) k.base read.0
    (ends_read (parts_read files asked k.base) (λ p. Planning (planned_task asked k.base p)) p read.1.1
    (subst A read.1.2 (ends_defined m c.in-Ok.ensures.task))))

pub returns-in-Err-clause-serves : goal.returns-in-Err-clause-serves
returns-in-Err-clause-serves g c =
    puts_more g.K.Sink.leads c.end_reading.ensures (λ more m files agree.
    fault_ends PlanTask _ c.in-Err.fault (c.in-Err.ensures.reads files agree Planning (λ k. tt)) c.in-Err.ensures.folder.counts m)
