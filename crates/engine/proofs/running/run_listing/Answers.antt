use Rattle.engine.proofs.Common.{Rose, ◌≡◌, ◌∙◌, List, Option, Ok, Put, Refusal, Result, Run, Some, Status, Task, Text, ap, sym, subst, ℕ, AnswersBeside, AreDecks, Case, FileSet, IsRunOf, Listing}
use Rattle.engine.proofs.Common.{ListingOrder, after_text, asked_of, case_listed, case_of, case_read, decks_text, text_if, FolderUse, IsAsked, IsTaskRead, SinkUse, ViewsPut, failed_write, folder_use}
use Rattle.engine.proofs.Common.{sink_use}
use Rattle.engine.proofs.{Afters.after_lists, Afters.after_valid, Afters.never_unread, Beside.not_ok, Beside.of_listing, Beside.reading_not_ok, DeckEnds.case_within, DeckEnds.run_within}
use Rattle.engine.proofs.{DeckEnds.to_list, DeckEnds.within, DeckEnds.within_lists, DeckEnds.within_valid, Ends.fault_ends, Ends.puts_more}
use Rattle.engine.proofs.running.run_listing.Goals as goal

-- the listing of a task that was read, as the run of its order
listed : (asked : ListingOrder) (to : Option Text) (files : FileSet) (k : Task) → IsTaskRead asked to files (Ok k) → IsAsked asked k → AreDecks k.decks →
    (folder : FolderUse) (beside : SinkUse) (end : Status) (puts : List Put) →
    IsRunOf ⊥ (failed_write beside) (after_text asked.deck (decks_text k.decks k.zones) (Listing k)) end puts → ViewsPut k asked.watch beside end →
    AnswersBeside (case_of (Some (Run asked to)) files) asked.watch folder beside end puts
listed asked to files k (p, zones) is valid folder beside end puts run views =
    let d = k.decks in
    let text = decks_text d k.zones in
    let here : Case = after_text asked.deck text (Listing k) in
    let same : within d.first p.last here ≡ case_of (Some (Run asked to)) files =
    ap (λ (j : Task). within d.first p.last (after_text asked.deck text (Listing j))) is
    ∙ ap (λ (z : Result (Option (List ℕ)) Refusal). within d.first p.last (case_read z (case_listed asked d))) (sym zones)
    ∙ case_within asked.limits asked.name to files (to_list files asked) d p in
    let B : Case → Type 0 = λ c. AnswersBeside c asked.watch folder beside end puts in
    subst B same (of_listing k (within d.first p.last here) (within_lists d.first p.last k here p.alike (after_lists asked.deck text k))
    (within_valid d.first p.last here (after_valid asked.deck text (Listing k) valid)) asked.watch
    (run_within (Rose folder.before folder.after) (failed_write beside) d.first p.last here p.alike end puts
    (never_unread (Rose folder.before folder.after) (failed_write beside) here end puts run)) views)

pub returns-in-Ok-clause-serves : goal.returns-in-Ok-clause-serves
returns-in-Ok-clause-serves g c =
    puts_more g.K.Sink.leads c.put_listing-status.ensures.puts (λ more m files agree.
    listed (asked_of c.args.asked) (text_if c.args.asked.to) files c.in-Ok.task (c.in-Ok.ensures.reads files agree) c.in-Ok.ensures.asked c.in-Ok.ensures.task.decks
    (folder_use g.F.Folder c.args.folder.now c.read_task.new.folder) (sink_use g.W.Sink c.args.side.now c.put_listing-status.new.side)
    c.put_listing-status.result more m c.put_listing-status.ensures.side)

pub returns-in-Err-clause-serves : goal.returns-in-Err-clause-serves
returns-in-Err-clause-serves g c =
    puts_more g.K.Sink.leads c.end_reading.ensures (λ more m files agree. not_ok _ _ (((g.met.W.Sink g.world.𝓛 g.world.𝓜 g.world.𝓡 ((λ s x. x), (λ x. x), (λ x. x), λ x. x))).rests c.args.side.now)
    (fault_ends Task _ c.in-Err.fault (c.in-Err.ensures.reads files agree) c.in-Err.ensures.folder.counts m)
    (reading_not_ok c.in-Err.fault c.end_reading.result more m))
