use Rattle.engine.proofs.Common.{check_of, ZonedListing, ConvertibleChecking, convertible_listing_read}
use Rattle.engine.proofs.Ends.{ends_defined, ends_read, ends_unread, puts_more}
use Rattle.engine.proofs.convertible_checking.check_model.Goals as goal

pub returns-in-Ok-clause-answers : goal.returns-in-Ok-clause-answers
returns-in-Ok-clause-answers g c =
    let asked = check_of c.args.asked in
    let m = c.args.model.now in
    puts_more g.K.Sink.leads c.put_convertible_check.ensures (λ more p files agree.
    ends_read (convertible_listing_read files asked m) (ConvertibleChecking m c.args.layers.now asked.digits) c.in-Ok.listing (c.in-Ok.ensures.reads files agree)
    (ends_defined p (c.requires.model, c.requires.yields, c.in-Ok.ensures.listed)))

pub returns-in-Err-clause-answers : goal.returns-in-Err-clause-answers
returns-in-Err-clause-answers g c =
    let asked = check_of c.args.asked in
    let m = c.args.model.now in
    puts_more g.K.Sink.leads c.end_reading.ensures (λ more p files agree.
    ends_unread (convertible_listing_read files asked m) (ConvertibleChecking m c.args.layers.now asked.digits) (λ (l : ZonedListing). l) (λ l. tt)
    c.in-Err.fault (c.in-Err.ensures.reads files agree) c.in-Err.ensures.folder.counts p)
