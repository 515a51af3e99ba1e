use Rattle.engine.proofs.Common.{Some, asked_text, case_rest, two, unlike}
use Rattle.engine.proofs.{DeckEnds.within_ends, Ends.puts_more, TextEnds.ends_unlike}
use Rattle.engine.proofs.text_check.check_two.Goals as goal

pub returns-in-None : goal.returns-in-None
returns-in-None g c =
    let asked = asked_text c.args.asked in
    let a = c.args.first in
    let b = c.args.second in
    puts_more g.K.Sink.leads c.check_last.ensures (λ more m n.
    within_ends a.model (Some (record { model = b.model; unlike = unlike asked.text b })) (case_rest asked (two a.model b.model) a.zones b.line b.rest) c.in-None.ensures.alike (m n))

pub returns-in-Some : goal.returns-in-Some
returns-in-Some g c =
    let asked = asked_text c.args.asked in
    let a = c.args.first in
    let b = c.args.second in
    puts_more g.K.Sink.leads c.end_text.ensures (λ more m n.
    ends_unlike a.model (record { model = b.model; unlike = unlike asked.text b })
    (case_rest asked (two a.model b.model) a.zones b.line b.rest) c.in-Some.difference c.in-Some.ensures.first c.in-Some.ensures.unlike
    c.unlike-fault.result c.unlike-fault.ensures m)
