use Rattle.engine.proofs.Common.{Err, List, Ok, Option, PlanParts, PlannedDecks, Refusal, Result, parts_read, plan_asked, refl, wells_read, zones_read, ℕ, ◌>>=◌}
use Rattle.engine.proofs.{BatchEnds.file_still, Readings.passed_reading, Readings.read_then, Readings.reads_both, Readings.stops_after, Readings.unread_then}
use Rattle.engine.proofs.planning.read_parts.Goals as goal

pub read_zones_of-requires-clause-may : goal.read_zones_of-requires-clause-may
read_zones_of-requires-clause-may g c = file_still _ _ (plan_asked c.args.asked).zones c.in_ok-wells.ensures.folder.still c.requires.zones

pub returns-in_err-wells-clause-reads : goal.returns-in_err-wells-clause-reads
returns-in_err-wells-clause-reads g c = λ files agree.
    let asked = plan_asked c.args.asked in
    passed_reading (λ (p : PlanParts). p) (parts_read files asked c.args.decks.now) c.from_residual.result _ c.from_residual.ensures.1
    (unread_then (λ (p : PlanParts). p) (wells_read files asked.limits asked.wells c.args.decks.now) _ (λ w. w) c.in_err-wells.field-0.0
    (c.in_err-wells.ensures.reads files agree))

pub returns-in-Err-clause-reads : goal.returns-in-Err-clause-reads
returns-in-Err-clause-reads g c = λ files agree.
    let asked = plan_asked c.args.asked in
    let d = c.args.decks.now in
    let zones : Result (Option (List ℕ)) Refusal = zones_read files asked.zones d.first in
    let then : PlannedDecks → Result PlanParts Refusal = λ wells. zones >>= λ zs. Ok (record { wells = wells; zones = zs }) in
    let last : Option (List ℕ) → Result PlanParts Refusal = λ zs. Ok (record { wells = c.in_ok-wells.wells; zones = zs }) in
    read_then (λ (p : PlanParts). p) (wells_read files asked.limits asked.wells d) then c.in_ok-wells.wells (Err c.in-Err.fault)
    (c.in_ok-wells.ensures.reads files (c.read_zones_of.ensures.folder.since files agree))
    (unread_then (λ (p : PlanParts). p) zones last (λ (z : Option (List ℕ)). z) c.in-Err.fault (c.in-Err.ensures.zones files agree))

pub returns-in-Ok-clause-reads : goal.returns-in-Ok-clause-reads
returns-in-Ok-clause-reads g c = λ files agree.
    rw (c.in_ok-wells.ensures.reads files (c.read_zones_of.ensures.folder.since files agree), c.in-Ok.ensures.zones files agree) refl

pub returns-in-Ok-clause-parts : goal.returns-in-Ok-clause-parts
returns-in-Ok-clause-parts g c = record { wells = c.in_ok-wells.ensures.planned; zones = c.in-Ok.ensures.fit }

pub returns-in-Err-clause-folder : goal.returns-in-Err-clause-folder
returns-in-Err-clause-folder g c = stops_after g.F.Folder c.args.folder.now c.read_wells.new.folder c.read_zones_of.new.folder c.in_ok-wells.wells c.in-Err.fault
    c.in_ok-wells.ensures.folder c.in-Err.ensures.folder

pub returns-in-Ok-clause-folder : goal.returns-in-Ok-clause-folder
returns-in-Ok-clause-folder g c = reads_both g.F.Folder c.args.folder.now c.read_wells.new.folder c.read_zones_of.new.folder c.in_ok-wells.wells c.in-Ok.zones
    (Ok _) c.in_ok-wells.ensures.folder c.in-Ok.ensures.folder refl
