use Rattle.engine.proofs.Common.{ℕ, subst, check_of, Answers, FlowModel, read_by_name, ConvertibleLayers, convertible_reads, ConvertibleChecking, convertible_listing_read, to_convertible_check}
use Rattle.engine.proofs.{BatchEnds.file_still, Ends.ends_read, Ends.ends_unread, Ends.puts_more, Ends.read_reads}
use Rattle.engine.proofs.convertible_checking.check_convertible.Goals as goal

pub returns-in-Ok-clause-serves : goal.returns-in-Ok-clause-serves
returns-in-Ok-clause-serves g c =
    let asked = check_of c.args.asked in
    let x : FlowModel × ConvertibleLayers = (c.in-Ok.model, c.in-Ok.layers) in
    puts_more g.K.Sink.leads c.check_model-status.ensures.answers (λ more p files agree.
    let A : ℕ → Type 0 = λ n. Answers (to_convertible_check files asked x) n (g.F.Folder.faults c.check_model-status.new.folder) c.check_model-status.result more in
    ends_read (read_by_name asked.name (convertible_reads asked.limits files)) (to_convertible_check files asked) x
    (c.in-Ok.ensures.reads files (c.check_model-status.ensures.since files agree)) (subst A c.in-Ok.ensures.folder.counts (p files agree)))

pub returns-in-Err-clause-serves : goal.returns-in-Err-clause-serves
returns-in-Err-clause-serves g c =
    let asked = check_of c.args.asked in
    puts_more g.K.Sink.leads c.end_reading.ensures (λ more p files agree.
    ends_unread (read_by_name asked.name (convertible_reads asked.limits files)) (to_convertible_check files asked) (λ (x : FlowModel × ConvertibleLayers). x)
    (λ x. read_reads (ConvertibleChecking x.0 x.1 asked.digits) (λ l. tt) (convertible_listing_read files asked x.0)) c.in-Err.fault
    (c.in-Err.ensures.reads files agree) c.in-Err.ensures.folder.counts p)

pub check_model-status-requires-clause-zones : goal.check_model-status-requires-clause-zones
check_model-status-requires-clause-zones g c = file_still _ _ (check_of c.args.asked).zones c.in-Ok.ensures.folder.still c.requires.may.2

pub check_model-status-requires-clause-may : goal.check_model-status-requires-clause-may
check_model-status-requires-clause-may g c = c.in-Ok.ensures.folder.still _ c.requires.listing
