use Rattle.engine.proofs.Common.{◌≡◌, List, Ok, Option, ℕ, subst, is_some, asked_text, AreListed, Case, Checking, ListedStep, StopsText, pairs_in, steps_after}
use Rattle.engine.proofs.{Ends.ends_defined, Ends.ends_read, Ends.puts_more, TextEnds.ends_stopped}
use Rattle.engine.proofs.text_check.check_rest.Goals as goal

pub returns-in-Ok : goal.returns-in-Ok
returns-in-Ok g c =
    let asked = asked_text c.args.asked in
    let d = c.args.decks.now in
    let zones = c.args.zones in
    let steps = c.in-Ok.steps in
    let come : List ListedStep → Case = λ steps. Checking asked.limits d asked.digits (record { zones = zones; steps = steps }) in
    let Z : Option (List ℕ) → Type 0 = λ z. steps_after (is_some d.second) d.first asked.digits (pairs_in d.first z) asked.text c.args.line c.args.rest.now ≡ Ok steps in
    let L : Option (List ℕ) → Type 0 = λ z. AreListed d.first (pairs_in d.first z) steps in
    puts_more g.K.Sink.leads c.put_check.ensures (λ more m n.
    ends_read (steps_after (is_some d.second) d.first asked.digits (pairs_in d.first zones) asked.text c.args.line c.args.rest.now) come steps
    (subst Z c.zone_slice.ensures (rw c.is_some-between.ensures at c.in-Ok.ensures.reads))
    (ends_defined m (c.requires.decks, record { zones = c.requires.zones; steps = subst L c.zone_slice.ensures c.in-Ok.ensures.listed })))

pub returns-in-Err : goal.returns-in-Err
returns-in-Err g c =
    let asked = asked_text c.args.asked in
    let d = c.args.decks.now in
    let zones = c.args.zones in
    let come : List ListedStep → Case = λ steps. Checking asked.limits d asked.digits (record { zones = zones; steps = steps }) in
    let S : Option (List ℕ) → Type 0 = λ z. StopsText c.in-Err.fault (steps_after (is_some d.second) d.first asked.digits (pairs_in d.first z) asked.text c.args.line c.args.rest.now) in
    puts_more g.K.Sink.leads c.end_text.ensures (λ more m n.
    ends_stopped (steps_after (is_some d.second) d.first asked.digits (pairs_in d.first zones) asked.text c.args.line c.args.rest.now) come (λ l. tt) c.in-Err.fault
    (subst S c.zone_slice.ensures (rw c.is_some-between.ensures at c.in-Err.ensures.reads)) m)

pub put_check-requires-clause-listing : goal.put_check-requires-clause-listing
put_check-requires-clause-listing g c =
    let L : Option (List ℕ) → Type 0 = λ z. AreListed c.args.decks.now.first (pairs_in c.args.decks.now.first z) c.in-Ok.steps in
    record { zones = c.requires.zones; steps = subst L c.zone_slice.ensures c.in-Ok.ensures.listed }
