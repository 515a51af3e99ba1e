use Rattle.engine.proofs.Common.{Bor, Option, Text, Err, subst, sym, AreDecksAs, err_from_is_err_and, second_by, text_if}
use Rattle.engine.proofs.Readings.{compared_counts, compared_decks, compared_valid, one_read, reads_both, stops_after, unread_first, unread_second}
use Rattle.engine.proofs.two_decks.read_decks.Goals as goal

pub read_second-requires : goal.read_second-requires
read_second-requires g c = record { may = c.in_ok-first.ensures.folder.still _ (rw c.in-Some.is at c.requires.to) }

pub returns-in_err-first-clause-reads : goal.returns-in_err-first-clause-reads
returns-in_err-first-clause-reads g c =
    let p = err_from_is_err_and c.from_residual.result c.from_residual.ensures.1 in
    λ files agree. rw (p.1, p.2) (unread_first c.args.limits c.args.name.now (text_if c.args.to) files c.in_err-first.field-0.0 (c.in_err-first.ensures.reads files agree))

pub returns-in-Err-clause-reads : goal.returns-in-Err-clause-reads
returns-in-Err-clause-reads g c = λ files agree.
    let P : Option (Bor Text) → Type 0 = λ o. AreDecksAs c.args.limits c.args.name.now (text_if o) files (Err c.in-Err.fault) in
    subst P (sym c.in-Some.is) (unread_second c.args.limits c.args.name.now files c.in_ok-first.first
    (c.in_ok-first.ensures.reads files (c.read_second.ensures.folder.since files agree)) c.in-Some.to.now c.in-Err.fault
    (c.in-Err.ensures.reads files agree))

pub returns-in_default-clause-reads : goal.returns-in_default-clause-reads
returns-in_default-clause-reads g c = λ files agree. rw c.in_default.is (one_read c.args.limits c.args.name.now files c.in_ok-first.first (c.in_ok-first.ensures.reads files agree))

pub returns-in-Ok-clause-reads : goal.returns-in-Ok-clause-reads
returns-in-Ok-clause-reads g c = λ files agree.
    rw c.in-Some.is (compared_decks c.args.limits c.args.name.now files c.in_ok-first.first
    (c.in_ok-first.ensures.reads files (c.read_second.ensures.folder.since files agree)) c.in-Some.to.now c.in-Ok.second (c.in-Ok.ensures.reads files agree)
    c.decks_of.result c.decks_of.ensures.alike c.decks_of.ensures.unlike)

pub returns-in-Ok-clause-decks : goal.returns-in-Ok-clause-decks
returns-in-Ok-clause-decks g c = compared_valid c.in_ok-first.first c.in-Ok.second.model c.decks_of.result c.in_ok-first.ensures.model c.in-Ok.ensures.model c.decks_of.ensures.alike

pub returns-in-Err-clause-folder : goal.returns-in-Err-clause-folder
returns-in-Err-clause-folder g c = stops_after g.F.Folder c.args.folder.now c.read_named.new.folder c.read_second.new.folder c.in_ok-first.first c.in-Err.fault
    c.in_ok-first.ensures.folder c.in-Err.ensures.folder

pub returns-in-Ok-clause-folder : goal.returns-in-Ok-clause-folder
returns-in-Ok-clause-folder g c =
    reads_both g.F.Folder c.args.folder.now c.read_named.new.folder c.read_second.new.folder c.in_ok-first.first c.in-Ok.second c.decks_of.result c.in_ok-first.ensures.folder c.in-Ok.ensures.folder
    (compared_counts c.in_ok-first.first (second_by c.in-Ok.second) c.decks_of.result (g.F.Folder.faults c.args.folder.now) c.decks_of.ensures.unlike)
