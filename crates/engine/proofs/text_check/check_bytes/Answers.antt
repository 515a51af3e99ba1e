use Rattle.engine.proofs.Common.{asked_text, case_parts, Parts}
use Rattle.engine.proofs.{Ends.ends_read, Ends.puts_more, TextEnds.ends_stopped, TextEnds.parts_read}
unfoldable use Rattle.stated_text.specs.{parts_in}
use Rattle.engine.proofs.text_check.check_bytes.Goals as goal

pub returns-in-Ok : goal.returns-in-Ok
returns-in-Ok g c =
    let asked = asked_text c.args.asked in
    puts_more g.K.Sink.leads c.check_parts.ensures (λ more m n.
    ends_read (parts_in asked.limits asked.text c.args.bytes.now) (λ (p : Parts). case_parts asked p.first p.second) c.in-Ok.parts c.in-Ok.ensures.reads (m n))

pub returns-in-Err : goal.returns-in-Err
returns-in-Err g c =
    let asked = asked_text c.args.asked in
    puts_more g.K.Sink.leads c.end_text.ensures (λ more m n.
    ends_stopped (parts_in asked.limits asked.text c.args.bytes.now) (λ (p : Parts). case_parts asked p.first p.second) (λ p.
    parts_read asked p.first p.second) c.in-Err.fault c.in-Err.ensures.reads m)
