use Rattle.std.proofs.Common.{None}
use Rattle.engine.proofs.{DeckEnds.ends_undecked, DeckEnds.to_write, DeckEnds.ends_decked, Ends.ends_defined, Ends.puts_more}
use Rattle.engine.proofs.writing.write.Goals as goal

pub returns-in-Ok-clause-serves : goal.returns-in-Ok-clause-serves
returns-in-Ok-clause-serves g c =
    puts_more g.K.Sink.leads c.put_deck-status.ensures (λ more m files agree.
    ends_decked c.args.limits c.args.name.now None files to_write c.in-Ok.decks (c.in-Ok.ensures.reads files agree)
    (ends_defined m c.in-Ok.ensures.decks.first))

pub returns-in-Err-clause-serves : goal.returns-in-Err-clause-serves
returns-in-Err-clause-serves g c =
    puts_more g.K.Sink.leads c.end_reading.ensures (λ more m files agree.
    ends_undecked c.args.limits c.args.name.now None files to_write (λ d. tt) c.in-Err.fault
    (c.in-Err.ensures.reads files agree) c.in-Err.ensures.folder.counts m)
