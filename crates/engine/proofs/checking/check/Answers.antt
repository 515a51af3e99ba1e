use Rattle.engine.proofs.Common.{ℕ, subst, check_of, Answers, text_if, Check, Checking, Some, case_of, is_some, listing_read}
use Rattle.engine.proofs.{DeckEnds.ends_undecked, DeckEnds.to_check, BatchEnds.file_still, Ends.puts_more, Ends.read_reads}
use Rattle.engine.proofs.checking.check.Goals as goal

pub returns-in-Ok-clause-serves : goal.returns-in-Ok-clause-serves
returns-in-Ok-clause-serves g c =
    puts_more g.K.Sink.leads c.check_decks-status.ensures.answers (λ more m files agree.
    let A : ℕ → Type 0 = λ n. Answers (case_of (Some (Check (check_of c.args.asked) (text_if c.args.asked.to))) files) n
    (g.F.Folder.faults c.check_decks-status.new.folder) c.check_decks-status.result more in
    subst A c.in-Ok.ensures.folder.counts (m files agree (c.in-Ok.ensures.reads files (c.check_decks-status.ensures.since files agree))))

pub returns-in-Err-clause-serves : goal.returns-in-Err-clause-serves
returns-in-Err-clause-serves g c =
    let asked = check_of c.args.asked in
    let to = text_if c.args.asked.to in
    puts_more g.K.Sink.leads c.end_reading.ensures (λ more m files agree. ends_undecked asked.limits asked.name to files (to_check files asked to)
    (λ d. read_reads (Checking asked.limits d asked.digits) (λ l. tt) (listing_read (is_some to) files asked d.first)) c.in-Err.fault
    (c.in-Err.ensures.reads files agree) c.in-Err.ensures.folder.counts m)

pub check_decks-status-requires-clause-zones : goal.check_decks-status-requires-clause-zones
check_decks-status-requires-clause-zones g c = file_still _ _ (check_of c.args.asked).zones c.in-Ok.ensures.folder.still c.requires.may.2

pub check_decks-status-requires-clause-may : goal.check_decks-status-requires-clause-may
check_decks-status-requires-clause-may g c = c.in-Ok.ensures.folder.still _ c.requires.listing
