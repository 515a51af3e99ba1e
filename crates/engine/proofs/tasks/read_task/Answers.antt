use Rattle.engine.proofs.Common.{decks_task, Decks, FileSet, Listing, ListingOrder, Ok, ReadsFolder, asked_of, case_listed, decks_text, err_from_is_err_and, refl, text_if, zones_read}
use Rattle.engine.proofs.{Afters.after_reads, BatchEnds.file_still, DeckEnds.decked_fault, DeckEnds.to_list, DeckEnds.fault_of_decks, Ends.fault_of_reading, Ends.read_reads, Readings.reads_both}
use Rattle.engine.proofs.{Readings.stops_after}
use Rattle.engine.proofs.tasks.read_task.Goals as goal

-- the folder is read for what is listed
listed_reads : (files : FileSet) (asked : ListingOrder) (d : Decks) → ReadsFolder (to_list files asked d)
listed_reads files asked d = read_reads (case_listed asked d) (λ z. after_reads asked.deck (decks_text d z) (Listing (decks_task asked d z)) tt)
    (zones_read files asked.zones d.first)

pub read_zones_of-requires-clause-may : goal.read_zones_of-requires-clause-may
read_zones_of-requires-clause-may g c = file_still _ _ (asked_of c.args.asked).zones c.in_ok-decks.ensures.folder.still c.requires.may.2

pub returns-in_err-decks-clause-reads : goal.returns-in_err-decks-clause-reads
returns-in_err-decks-clause-reads g c =
    let asked = asked_of c.args.asked in
    let p = err_from_is_err_and c.from_residual.result c.from_residual.ensures.1 in
    λ files agree. rw (p.1, p.2) (fault_of_decks asked.limits asked.name (text_if c.args.asked.to) files (to_list files asked) (listed_reads files asked)
    c.in_err-decks.field-0.0 (c.in_err-decks.ensures.reads files agree))

pub returns-in-Err-clause-reads : goal.returns-in-Err-clause-reads
returns-in-Err-clause-reads g c = λ files agree.
    let asked = asked_of c.args.asked in
    let d = c.in_ok-decks.decks in
    decked_fault asked.limits asked.name (text_if c.args.asked.to) files (to_list files asked) d
    (c.in_ok-decks.ensures.reads files (c.read_zones_of.ensures.folder.since files agree)) c.in-Err.fault
    (fault_of_reading (zones_read files asked.zones d.first) (case_listed asked d) (λ z. z)
    (λ z. after_reads asked.deck (decks_text d z) (Listing (decks_task asked d z)) tt) c.in-Err.fault (c.in-Err.ensures.zones files agree))

pub returns-in-Ok-clause-reads : goal.returns-in-Ok-clause-reads
returns-in-Ok-clause-reads g c = λ files agree.
    (c.in_ok-decks.ensures.reads files (c.read_zones_of.ensures.folder.since files agree), c.in-Ok.ensures.zones files agree)

pub returns-in-Err-clause-folder : goal.returns-in-Err-clause-folder
returns-in-Err-clause-folder g c = stops_after g.F.Folder c.args.folder.now c.read_decks.new.folder c.read_zones_of.new.folder c.in_ok-decks.decks c.in-Err.fault
    c.in_ok-decks.ensures.folder c.in-Err.ensures.folder

pub returns-in-Ok-clause-folder : goal.returns-in-Ok-clause-folder
returns-in-Ok-clause-folder g c = reads_both g.F.Folder c.args.folder.now c.read_decks.new.folder c.read_zones_of.new.folder c.in_ok-decks.decks c.in-Ok.zones
    (Ok _) c.in_ok-decks.ensures.folder c.in-Ok.ensures.folder refl
