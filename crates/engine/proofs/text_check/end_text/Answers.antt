use Rattle.engine.proofs.Common.{InputFault, IsReadingEnd, subst}
use Rattle.engine.proofs.Ends.{puts_more}
use Rattle.engine.proofs.text_check.end_text.Goals as goal

pub returns : goal.returns
returns g c = puts_more g.K.Sink.leads c.end_reading.ensures (λ more m.
    let E : InputFault → Type 0 = λ f. IsReadingEnd f c.end_reading.result more in
    subst E c.from.ensures m)
