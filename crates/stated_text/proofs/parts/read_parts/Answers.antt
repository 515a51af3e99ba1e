use Rattle.stated_text.proofs.Common.{rules, ◌≡◌, begins_part, lines, true, err_from_is_err_and}
use Rattle.stated_text.proofs.{Readings.no_first, Readings.no_second, Readings.one_part, Readings.two_parts, Stands.parts_stand_in_text}
use Rattle.stated_text.proofs.parts.read_parts.Goals as goal

pub returns-in_err-first-clause-reads : goal.returns-in_err-first-clause-reads
returns-in_err-first-clause-reads c =
    let p = err_from_is_err_and c.from_residual.result c.from_residual.ensures.1 in
    rw (p.1, p.2) (no_first c.args.limits c.args.text.now c.args.bytes.now c.in_err-first.field-0.0 c.in_err-first.ensures.reads)

pub returns-then-not-begins_part-clause-reads : goal.returns-then-not-begins_part-clause-reads
returns-then-not-begins_part-clause-reads c = one_part c.args.limits c.args.text.now c.args.bytes.now _ c.in_ok-first.ensures.reads (search rules)

pub returns-then-not-begins_part-clause-stands : goal.returns-then-not-begins_part-clause-stands
returns-then-not-begins_part-clause-stands c =
    parts_stand_in_text c.args.limits c.args.text.now c.args.bytes.now _ (one_part c.args.limits c.args.text.now c.args.bytes.now _ c.in_ok-first.ensures.reads
    (search rules))

pub returns-in-Ok-clause-reads : goal.returns-in-Ok-clause-reads
returns-in-Ok-clause-reads c =
    let another : begins_part (lines c.in_ok-first.first.rest) ≡ true = search rules in
    two_parts c.args.limits c.args.text.now c.args.bytes.now c.in_ok-first.first c.in_ok-first.ensures.reads another c.in-Ok.second (rw c.as_slice-rest.ensures at c.in-Ok.ensures.reads)

pub returns-in-Ok-clause-stands : goal.returns-in-Ok-clause-stands
returns-in-Ok-clause-stands c =
    let another : begins_part (lines c.in_ok-first.first.rest) ≡ true = search rules in
    parts_stand_in_text c.args.limits c.args.text.now c.args.bytes.now _
    (two_parts c.args.limits c.args.text.now c.args.bytes.now c.in_ok-first.first c.in_ok-first.ensures.reads another c.in-Ok.second
    (rw c.as_slice-rest.ensures at c.in-Ok.ensures.reads))

pub returns-in-Err-clause-reads : goal.returns-in-Err-clause-reads
returns-in-Err-clause-reads c =
    let another : begins_part (lines c.in_ok-first.first.rest) ≡ true = search rules in
    no_second c.args.limits c.args.text.now c.args.bytes.now c.in_ok-first.first c.in_ok-first.ensures.reads another c.in-Err.fault (rw c.as_slice-rest.ensures at c.in-Err.ensures.reads)
