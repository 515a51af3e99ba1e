use Rattle.listing_io.proofs.Common.{◌∙◌, ◌≤◌, ℕ, List, Result, Ok, length, refl, sym, subst, err_from_is_err_and, TimeStep, for_each, pairs_in, step_at, zones_of, Left}
use Rattle.std.specs.Prelude.{All}
use Rattle.listing_io.proofs.{Periods.times_within, Rows.all_read, Rows.end_stops, Rows.over_stops, Rows.steps_stop}
use Rattle.listing_io.proofs.listing_reader.read_to_end.Goals as goal

pub read_steps-requires-clause-times : goal.read_steps-requires-clause-times
read_steps-requires-clause-times c =
    let T : List TimeStep → Type 0 = λ ts. All (λ at. at.period ≤ length c.args.model.now.periods) ts in
    subst T (sym (c.as_slice.ensures.value ∙ c.in_ok-times.ensures.times)) (times_within c.args.model.now)

pub returns-in_err-steps : goal.returns-in_err-steps
returns-in_err-steps c =
    let first : Result Left ℕ = Ok c.args.lines.now in
    let read = for_each (step_at c.args.model.now c.args.s (pairs_in c.args.model.now (zones_of c.args.pairs.now))) in
    let same = c.as_slice.ensures.value ∙ c.in_ok-times.ensures.times in
    let p = err_from_is_err_and c.from_residual-in_err-steps.result c.from_residual-in_err-steps.ensures.1 in
    rw (p.1, p.2) (steps_stop first read c.args.model.now _ c.as_slice.result.now same refl c.in_err-steps.field-0.0 c.in_err-steps.ensures)

pub returns-in_err-expect : goal.returns-in_err-expect
returns-in_err-expect c =
    let first : Result Left ℕ = Ok c.args.lines.now in
    let read = for_each (step_at c.args.model.now c.args.s (pairs_in c.args.model.now (zones_of c.args.pairs.now))) in
    let same = c.as_slice.ensures.value ∙ c.in_ok-times.ensures.times in
    let p = err_from_is_err_and c.from_residual-in_err-expect.result c.from_residual-in_err-expect.ensures.1 in
    rw (p.1, p.2) (end_stops first read c.args.model.now _ c.as_slice.result.now same refl
    c.in_ok-steps.steps.items _ c.in_ok-steps.ensures c.in_err-expect.field-0.0 c.in_err-expect.ensures)

pub returns-in_err-end : goal.returns-in_err-end
returns-in_err-end c =
    let first : Result Left ℕ = Ok c.args.lines.now in
    let read = for_each (step_at c.args.model.now c.args.s (pairs_in c.args.model.now (zones_of c.args.pairs.now))) in
    let same = c.as_slice.ensures.value ∙ c.in_ok-times.ensures.times in
    let p = err_from_is_err_and c.from_residual-in_err-end.result c.from_residual-in_err-end.ensures.1 in
    rw (p.1, p.2) (over_stops first read c.args.model.now _ c.as_slice.result.now same refl
    c.in_ok-steps.steps.items _ c.in_ok-steps.ensures _ c.in_ok-expect.ensures c.in_err-end.field-0.0 c.in_err-end.ensures)

pub returns : goal.returns
returns c =
    let first : Result Left ℕ = Ok c.args.lines.now in
    let read = for_each (step_at c.args.model.now c.args.s (pairs_in c.args.model.now (zones_of c.args.pairs.now))) in
    let same = c.as_slice.ensures.value ∙ c.in_ok-times.ensures.times in
    all_read first read c.args.model.now _ c.as_slice.result.now same refl c.in_ok-steps.steps.items _
    c.in_ok-steps.ensures _ c.in_ok-expect.ensures _ c.in_ok-end.ensures
