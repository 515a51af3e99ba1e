use Rattle.engine.proofs.Common.{◌∙◌, Answers, Bool, Case, PlanTask, ℕ, check_of, is_some, parts_read, planned_task, subst, text_if, PlanChecking, as_plan, plan_steps_read, to_plan_check}
use Rattle.engine.proofs.{DeckEnds.ends_decked, DeckEnds.is_second, DeckEnds.to_plan, Ends.ends_read, Ends.fault_ends, Ends.puts_more, Ends.read_reads}
use Rattle.engine.proofs.plan_checking.check_plan.Goals as goal

pub returns-in-Ok-clause-serves : goal.returns-in-Ok-clause-serves
returns-in-Ok-clause-serves g c =
    let check = check_of c.args.asked.check in
    let asked = as_plan check c.args.asked.wells.now in
    let to = text_if c.args.asked.check.to in
    let k = c.in-Ok.task in
    puts_more g.K.Sink.leads c.check_task-status.ensures.answers (λ more m files agree.
    let read = c.in-Ok.ensures.reads files (c.check_task-status.ensures.since files agree) in
    let p = read.1.0 in
    let come : PlanTask → Case = to_plan_check (is_some to) files check.listing in
    let B : Bool → Type 0 = λ b. Answers (to_plan_check b files check.listing k) (g.F.Folder.faults c.read_plan_task.new.folder)
    (g.F.Folder.faults c.check_task-status.new.folder) c.check_task-status.result more in
    let A : ℕ → Type 0 = λ n. Answers (come k) n (g.F.Folder.faults c.check_task-status.new.folder) c.check_task-status.result more in
    let T : PlanTask → Type 0 = λ j. Answers (come j) (g.F.Folder.faults c.args.folder.now) (g.F.Folder.faults c.check_task-status.new.folder)
    c.check_task-status.result more in
    ends_decked asked.limits asked.name to files (to_plan files asked come) k.base read.0
    (ends_read (parts_read files asked k.base) (λ q. come (planned_task asked k.base q)) p read.1.1
    (subst T read.1.2 (subst A c.in-Ok.ensures.folder.counts (subst B (c.is_some-between.ensures ∙ is_second c.args.asked.check.to) (m files agree))))))

pub returns-in-Err-clause-serves : goal.returns-in-Err-clause-serves
returns-in-Err-clause-serves g c =
    let check = check_of c.args.asked.check in
    let to = text_if c.args.asked.check.to in
    puts_more g.K.Sink.leads c.end_reading.ensures (λ more m files agree.
    fault_ends PlanTask _ c.in-Err.fault (c.in-Err.ensures.reads files agree (to_plan_check (is_some to) files check.listing)
    (λ k. read_reads (PlanChecking k) (λ l. tt) (plan_steps_read (is_some to) files check.listing k))) c.in-Err.ensures.folder.counts m)

pub check_task-status-requires-clause-may : goal.check_task-status-requires-clause-may
check_task-status-requires-clause-may g c = c.in-Ok.ensures.folder.still _ c.requires.listing
