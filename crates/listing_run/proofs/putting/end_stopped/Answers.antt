use Rattle.listing_run.proofs.Common.{List, [], refl, subst, sym, append-nil, Put, SinkError, IsStopEnd}
use Rattle.run_puts.specs.declared.puts.Status.TheVariants.{WriteFault}
use Rattle.listing_run.proofs.putting.end_stopped.Goals as goal

pub returns-in-Write : goal.returns-in-Write
returns-in-Write g c = λ start puts h.
    let L : List Put → Type 0 = λ s. g.K.Sink.leads start s c.args.out.now in
    let E : SinkError → Type 0 = λ e. IsStopEnd e WriteFault [] in
    ([], subst L (sym (append-nil puts)) h, subst E (sym c.in-Write.is) (refl, refl))
