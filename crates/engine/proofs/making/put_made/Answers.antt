use Rattle.engine.proofs.Common.{◌∙◌, ap, refl, subst, Err, Ok, InputFault, IsReadingEnd, FileSet, with_limit, FolderState}
use Rattle.engine.proofs.Ends.{ends_without_words, made_reading, made_unread, puts_more}
use Rattle.engine.proofs.making.put_made.Goals as goal

-- the files of a folder in memory, with its limit
abbrev files_of : FolderState → FileSet
files_of folder = with_limit folder.limit folder.files

pub returns-in_default : goal.returns-in_default
returns-in_default g c = puts_more g.K.Sink.leads c.put_memory.ensures (λ more m n.
    ends_without_words m)

pub returns-in-Ok-read_named : goal.returns-in-Ok-read_named
returns-in-Ok-read_named g c =
    let files = c.in-Ok-read_named.ensures.folder.since (files_of c.read_named.new.folder) refl ∙ ap files_of c.in-Ok.ensures in
    let read = made_reading c.args.asked.seed c.args.asked.size (files_of c.read_named.new.folder) (Ok c.in-Ok-read_named.model) files
    (c.in-Ok-read_named.ensures.reads (files_of c.read_named.new.folder) refl) in
    puts_more g.K.Sink.leads c.put_summary.ensures (λ more m. m read)

pub returns : goal.returns
returns g c =
    let files = c.in-Err.ensures.folder.since (files_of c.read_named.new.folder) refl ∙ ap files_of c.in-Ok.ensures in
    let read = made_reading c.args.asked.seed c.args.asked.size (files_of c.read_named.new.folder) (Err c.in-Err.fault) files (c.in-Err.ensures.reads (files_of c.read_named.new.folder) refl) in
    puts_more g.K.Sink.leads c.end_reading.ensures (λ more m.
    let E : InputFault → Type 0 = λ f. IsReadingEnd f c.end_reading.result more in
    made_unread c.args.asked.seed c.args.asked.size c.in-Err.fault c.end_reading.result more read (subst E c.made_fault.ensures m))
