use Rattle.plan_run.proofs.Common.{subst, IsEnd, Status, last_line}
use Rattle.listing_run.proofs.Lines.{ends_by}
use Rattle.plan_run.proofs.putting.put_end.Goals as goal

pub returns : goal.returns
returns g c = λ start puts h.
    let p = c.put_line.ensures start puts h in
    let line = last_line c.args.task.now.base.first.grid c.args.end in
    let E : Status → Type 0 = λ meant. IsEnd line meant c.put_line.result p.0 in
    (p.0, p.1, subst E c.status_of.ensures (ends_by (λ t. t.items) c.line_of-line.result line c.status_of.result c.put_line.result p.0 c.line_of-line.ensures p.2))
