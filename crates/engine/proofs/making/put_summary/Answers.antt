use Rattle.engine.proofs.Common.{subst, IsEnd, Status, ends_by, summed_text}
use Rattle.engine.proofs.Ends.{ends_without_words, made_ended, puts_more}
use Rattle.engine.proofs.making.put_summary.Goals as goal

pub returns-in_default : goal.returns-in_default
returns-in_default g c = puts_more g.K.Sink.leads c.put_memory.ensures (λ more m read n.
    ends_without_words m)

pub returns : goal.returns
returns g c =
    let line = summed_text c.args.asked.seed c.args.asked.size c.args.model.grid c.in-Ok.summary c.in-Ok.end in
    puts_more g.K.Sink.leads c.put_line.ensures (λ more p.
    let E : Status → Type 0 = λ meant. IsEnd line meant c.put_line.result more in
    let put = subst E c.status.ensures (ends_by (λ t. t.items) c.summary_line-line.result line c.status.result c.put_line.result more c.summary_line-line.ensures p) in
    λ read. made_ended c.args.asked.seed c.args.asked.size c.args.model c.in-Ok.summary c.in-Ok.end c.put_line.result more read c.requires c.in-Ok.ensures put)
