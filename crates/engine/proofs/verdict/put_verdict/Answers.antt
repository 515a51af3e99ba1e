use Rattle.engine.proofs.Common.{subst, IsEnd, Status, ends_by, verdict_line}
use Rattle.engine.proofs.Ends.{puts_more}
use Rattle.engine.proofs.verdict.put_verdict.Goals as goal

pub returns : goal.returns
returns g c =
    let line = verdict_line c.args.grid.now c.args.verdict in
    puts_more g.K.Sink.leads c.put_line.ensures (λ more p.
    let E : Status → Type 0 = λ meant. IsEnd line meant c.put_line.result more in
    subst E c.verdict_status.ensures (ends_by (λ t. t.items) c.verdict_line-line.result line c.verdict_status.result c.put_line.result more c.verdict_line-line.ensures p))
