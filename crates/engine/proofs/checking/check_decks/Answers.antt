use Rattle.engine.proofs.Common.{◌≡◌, ◌∙◌, Bool, Ok, Err, is_some, subst, check_of, text_if, Checking, IsReading, ZonedListing, listing_read}
use Rattle.engine.proofs.{DeckEnds.ends_decked, DeckEnds.is_second, DeckEnds.to_check, Ends.ends_defined, Ends.ends_read, Ends.ends_unread, Ends.puts_more}
use Rattle.engine.proofs.checking.check_decks.Goals as goal

pub returns-in-Ok-clause-answers : goal.returns-in-Ok-clause-answers
returns-in-Ok-clause-answers g c =
    let asked = check_of c.args.asked in
    let to = text_if c.args.asked.to in
    let d = c.args.decks.now in
    puts_more g.K.Sink.leads c.put_check.ensures (λ more m files agree read.
    let L : Bool → Type 0 = λ b. listing_read b files asked d.first ≡ Ok c.in-Ok.listing in
    ends_decked asked.limits asked.name to files (to_check files asked to) d read
    (ends_read (listing_read (is_some to) files asked d.first) (Checking asked.limits d asked.digits) c.in-Ok.listing
    (subst L (c.is_some.ensures ∙ is_second c.args.asked.to) (c.in-Ok.ensures.reads files agree))
    (ends_defined m (c.requires.decks, c.in-Ok.ensures.listed))))

pub returns-in-Err-clause-answers : goal.returns-in-Err-clause-answers
returns-in-Err-clause-answers g c =
    let asked = check_of c.args.asked in
    let to = text_if c.args.asked.to in
    let d = c.args.decks.now in
    puts_more g.K.Sink.leads c.end_reading.ensures (λ more m files agree read.
    let L : Bool → Type 0 = λ b. IsReading {T = ZonedListing} (λ l. l) (listing_read b files asked d.first) (Err c.in-Err.fault) in
    ends_decked asked.limits asked.name to files (to_check files asked to) d read
    (ends_unread (listing_read (is_some to) files asked d.first) (Checking asked.limits d asked.digits) (λ (l : ZonedListing). l) (λ l. tt) c.in-Err.fault
    (subst L (c.is_some.ensures ∙ is_second c.args.asked.to) (c.in-Err.ensures.reads files agree)) c.in-Err.ensures.folder.counts m))
