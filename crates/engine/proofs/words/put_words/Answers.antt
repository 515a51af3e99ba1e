use Rattle.engine.proofs.Common.{IsLast, IsSaid, List, NeverCut, subst, ℕ, inl, lone_line_is_run, refl, words_text}
use Rattle.engine.proofs.Ends.{puts_more}
use Rattle.run_puts.specs.declared.puts.Status.TheVariants as status
use Rattle.engine.proofs.words.put_words.Goals as goal

pub returns : goal.returns
returns g c = puts_more g.K.Sink.leads c.put_last.ensures (λ more p.
    let L : List ℕ → Type 0 = λ t. IsLast t status.Ok c.put_last.result more in
    lone_line_is_run (IsSaid words_text) NeverCut words_text status.Ok c.put_last.result more (refl, refl) (inl (subst L c.as_bytes.ensures.value p)))
