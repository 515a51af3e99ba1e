use Rattle.engine.proofs.Common.{Option, subst, sym, Answers, asked_text, case_parts, Part}
use Rattle.engine.proofs.Ends.{puts_more}
use Rattle.engine.proofs.text_check.check_parts.Goals as goal

pub returns-in-None : goal.returns-in-None
returns-in-None g c = puts_more g.K.Sink.leads c.check_last.ensures (λ more m n.
    let P : Option Part → Type 0 = λ second. Answers (case_parts (asked_text c.args.asked) c.args.parts.first second) n n c.check_last.result more in
    subst P (sym c.in-None.is) (m n))

pub returns-in-Some : goal.returns-in-Some
returns-in-Some g c = puts_more g.K.Sink.leads c.check_two.ensures (λ more m n.
    let P : Option Part → Type 0 = λ second. Answers (case_parts (asked_text c.args.asked) c.args.parts.first second) n n c.check_two.result more in
    subst P (sym c.in-Some.is) (m n))
