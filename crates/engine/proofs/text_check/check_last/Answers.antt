use Rattle.engine.proofs.Common.{List, ℕ, subst, Answers, asked_text, case_rest}
use Rattle.engine.proofs.Ends.{puts_more}
use Rattle.engine.proofs.text_check.check_last.Goals as goal

pub returns : goal.returns
returns g c = puts_more g.K.Sink.leads c.check_rest-status.ensures (λ more m n.
    let R : List ℕ → Type 0 = λ rest. Answers (case_rest (asked_text c.args.asked) c.args.decks c.args.zones c.args.line rest) n n c.check_rest-status.result more in
    subst R c.as_slice.ensures (m n))
