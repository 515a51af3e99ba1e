use Rattle.listing_io.proofs.Common.{◌≡◌, ◌+◌, ℕ, List, Option, Result, subst, ◌∙◌, drop, get_or, arith, drop_all, err_from_is_err_and, each_goes_on, each_done, FlowModel, TimeStep, pairs_in}
use Rattle.listing_io.proofs.Common.{zones_of, ListedStep, Left, Stops, step_at}
use Rattle.listing_io.proofs.Walks.{each_stops, next_of}
use Rattle.listing_io.proofs.listing_reader.read_steps.Goals as goal

abbrev no_time : TimeStep
no_time = record { period = 0; step = 0 }

-- the reading of a step, by equal zones
same_zones : (m : FlowModel) (s : ℕ) (at : TimeStep) (left : Left) (z w : Option (List ℕ)) → z ≡ w → (r : Result (ListedStep × Left) ℕ) →
    step_at m s (pairs_in m z) at left ≡ r → step_at m s (pairs_in m w) at left ≡ r
same_zones m s at left z w e r h = let S : Option (List ℕ) → Type 0 = λ o. step_at m s (pairs_in m o) at left ≡ r in subst S e h

pub returns-in_err-step : goal.returns-in_err-step
returns-in_err-step c =
    let ats = c.args.times.now in
    let i = c.loop-at.at-index in
    let m = c.args.model.now in
    let at = get_or ats i no_time in
    let p = err_from_is_err_and c.from_residual.result c.from_residual.ensures.1 in
    let S : Option (List ℕ) → Type 0 = λ z. Stops c.in_err-step.field-0.0 (step_at m c.args.s (pairs_in m z) at c.loop-at.lines) in
    rw (p.1, p.2) (each_stops (step_at m c.args.s (pairs_in m (zones_of c.args.pairs.now))) c.in_err-step.field-0.0 c.loop-at.steps.items (drop i ats)
    (drop (i + 1) ats) at c.loop-at.lines _ (next_of ats i no_time c.loop-at-test.true)
    (subst S c.loop-at.invariant.zones c.in_err-step.ensures.step) c.loop-at.invariant.steps)

pub loop-at-preserved : goal.loop-at-preserved
loop-at-preserved c =
    let ats = c.args.times.now in
    let i = c.loop-at.at-index in
    let m = c.args.model.now in
    let at = get_or ats i no_time in
    record {
      pairs = c.in_ok-step.ensures.pairs;
      zones = c.read_next.ensures.zones ∙ c.loop-at.invariant.zones;
      steps = rw c.in_ok-push.ensures.items (each_goes_on (step_at m c.args.s (pairs_in m (zones_of c.args.pairs.now))) c.loop-at.steps.items (drop i ats)
          (drop (i + 1) ats) at c.loop-at.lines _ c.in_ok-step.step _ (next_of ats i no_time c.loop-at-test.true)
          (same_zones m c.args.s at c.loop-at.lines _ _ c.loop-at.invariant.zones _ c.in_ok-step.ensures.step) c.loop-at.invariant.steps);
    }

pub returns : goal.returns
returns c =
    let ats = c.args.times.now in
    each_done (step_at c.args.model.now c.args.s (pairs_in c.args.model.now (zones_of c.args.pairs.now))) c.loop-at.steps.items
    (drop c.loop-at.at-index ats) c.loop-at.lines _ (drop_all c.loop-at.at-index ats (omega arith)) c.loop-at.invariant.steps
