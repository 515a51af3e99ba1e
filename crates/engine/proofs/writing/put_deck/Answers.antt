use Rattle.engine.proofs.Common.{refl, deck_text, NeverCut, lone_line_is_run, ends_by, IsSaid}
use Rattle.engine.proofs.Ends.{puts_more}
use Rattle.run_puts.specs.declared.puts.Status.TheVariants as status
use Rattle.engine.proofs.writing.put_deck.Goals as goal

pub returns : goal.returns
returns g c =
    let text = deck_text c.args.model.now in
    puts_more g.K.Sink.leads c.put_line.ensures (λ more p.
    lone_line_is_run (IsSaid text) NeverCut text status.Ok c.put_line.result more (refl, refl)
    (ends_by (λ t. t.items) c.write_deck-text.result text status.Ok c.put_line.result more c.write_deck-text.ensures p))
