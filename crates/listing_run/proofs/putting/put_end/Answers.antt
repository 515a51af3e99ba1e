use Rattle.listing_run.proofs.Common.{subst, IsEnd, Status, last_line}
use Rattle.listing_run.proofs.Lines.{ends_by}
use Rattle.listing_run.proofs.putting.put_end.Goals as goal

pub returns : goal.returns
returns g c = λ start puts h.
    let p = c.put_line.ensures start puts h in
    let line = last_line c.args.task.now.decks.first.grid c.args.end in
    let E : Status → Type 0 = λ meant. IsEnd line meant c.put_line.result p.0 in
    (p.0, p.1, subst E c.status.ensures (ends_by (λ t. t.items) c.line-line.result line c.status.result c.put_line.result p.0 c.line-line.ensures p.2))
