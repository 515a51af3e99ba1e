use Rattle.engine.proofs.Common.{subst, IsEnd, Status, ends_by, gentle_verdict_line}
use Rattle.engine.proofs.Ends.{puts_more}
use Rattle.engine.proofs.convertible_verdict.put_gentle_verdict.Goals as goal

pub returns : goal.returns
returns g c =
    let line = gentle_verdict_line c.args.grid.now c.args.verdict in
    puts_more g.K.Sink.leads c.put_line.ensures (λ more p.
    let E : Status → Type 0 = λ meant. IsEnd line meant c.put_line.result more in
    subst E c.status_of.ensures (ends_by (λ t. t.items) c.line_of-line.result line c.status_of.result c.put_line.result more c.line_of-line.ensures p))
