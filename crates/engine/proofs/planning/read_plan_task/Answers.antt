use Rattle.engine.proofs.Common.{AskedPlan, Case, Decks, FileSet, Ok, PlanParts, PlanTask, ReadsFolder, err_from_is_err_and, parts_read, plan_asked, planned_task, reads, refl, rules, text_if}
use Rattle.engine.proofs.{BatchEnds.file_still, DeckEnds.decked_fault, DeckEnds.fault_of_decks, DeckEnds.to_plan, Ends.fault_of_reading, Ends.read_reads, Readings.named_read, Readings.reads_both}
use Rattle.engine.proofs.{Readings.stops_after}
use Rattle.engine.proofs.planning.read_plan_task.Goals as goal

-- the folder is read for what is listed of a plan
plan_reads : (files : FileSet) (asked : AskedPlan) (come : PlanTask → Case) → ((k : PlanTask) → ReadsFolder (come k)) → (d : Decks) → ReadsFolder (to_plan files asked come d)
plan_reads files asked come all d = read_reads (λ p. come (planned_task asked d p)) (λ p. all (planned_task asked d p)) (parts_read files asked d)

pub read_parts-requires-clause-zones : goal.read_parts-requires-clause-zones
read_parts-requires-clause-zones g c = file_still _ _ (plan_asked c.args.asked).zones c.in_ok-decks.ensures.folder.still c.requires.may.2

pub read_parts-requires-clause-may : goal.read_parts-requires-clause-may
read_parts-requires-clause-may g c = c.in_ok-decks.ensures.folder.still _ c.requires.wells

pub returns-in_err-decks-clause-reads : goal.returns-in_err-decks-clause-reads
returns-in_err-decks-clause-reads g c =
    let asked = plan_asked c.args.asked in
    let p = err_from_is_err_and c.from_residual.result c.from_residual.ensures.1 in
    λ files agree. rw (p.1, p.2) (λ come all. fault_of_decks asked.limits asked.name (text_if c.args.asked.to) files (to_plan files asked come)
    (plan_reads files asked come all) c.in_err-decks.field-0.0 (c.in_err-decks.ensures.reads files agree))

pub returns-in-Err-clause-reads : goal.returns-in-Err-clause-reads
returns-in-Err-clause-reads g c = λ files agree come all.
    let asked = plan_asked c.args.asked in
    let d = c.in_ok-decks.decks in
    decked_fault asked.limits asked.name (text_if c.args.asked.to) files (to_plan files asked come) d
    (c.in_ok-decks.ensures.reads files (c.read_parts.ensures.folder.since files agree)) c.in-Err.fault
    (fault_of_reading (parts_read files asked d) (λ p. come (planned_task asked d p)) (λ (p : PlanParts). p) (λ p. all (planned_task asked d p)) c.in-Err.fault
    (c.in-Err.ensures.reads files agree))

pub returns-in-Ok-clause-reads : goal.returns-in-Ok-clause-reads
returns-in-Ok-clause-reads g c = λ files agree.
    rw c.task_of.ensures (
      c.in_ok-decks.ensures.reads files (c.read_parts.ensures.folder.since files agree),
      (c.in-Ok.parts, c.in-Ok.ensures.reads files agree, refl),
    )

pub returns-in-Ok-clause-task : goal.returns-in-Ok-clause-task
returns-in-Ok-clause-task g c =
    let asked = plan_asked c.args.asked in
    let files = c.some_agree.ensures.0 in
    let agree = c.some_agree.ensures.1 in
    let d = c.in_ok-decks.decks in
    let read = c.in_ok-decks.ensures.reads files (c.read_parts.ensures.folder.since files agree) in
    let wells = c.in-Ok.ensures.parts.wells in
    rw c.task_of.ensures (record {
      base = c.in_ok-decks.ensures.decks;
      planned = wells.valid;
      with_wells = wells.are;
      long = wells.plan.long;
      wells = wells.plan.wells;
      apart = c.wells_keep_apart.ensures.readers asked.limits files asked.name d.first (named_read asked.name (reads asked.limits files) d.first read.is_first);
      digits = search rules;
      zones = c.in-Ok.ensures.parts.zones;
    })

pub returns-in-Err-clause-folder : goal.returns-in-Err-clause-folder
returns-in-Err-clause-folder g c = stops_after g.F.Folder c.args.folder.now c.read_decks.new.folder c.read_parts.new.folder c.in_ok-decks.decks c.in-Err.fault
    c.in_ok-decks.ensures.folder c.in-Err.ensures.folder

pub returns-in-Ok-clause-folder : goal.returns-in-Ok-clause-folder
returns-in-Ok-clause-folder g c = reads_both g.F.Folder c.args.folder.now c.read_decks.new.folder c.read_parts.new.folder c.in_ok-decks.decks c.in-Ok.parts
    (Ok _) c.in_ok-decks.ensures.folder c.in-Ok.ensures.folder refl
