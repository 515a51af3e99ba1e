use Rattle.check_run.proofs.Common.{◌∙◌, ap, ListedStep, ℕ, ◌<◌, ◌≤◌, arith, length, refl, subst, sym, List, option_map, Bound, AreGridHeads, EnclosesStarts, step_in, digits_of, AreDeckTables}
use Rattle.check_run.proofs.Common.{AreStartHeadsFor, IfOk-weaker}
use Rattle.check_run.proofs.Checking.{at_first, ends_certified, ends_enclosed, ends_history, flows_here, goes_here, listed_at, not_certified, step_there, stops_here}
use Rattle.check_run.proofs.RunText.{grid_of}
use Rattle.check_run.proofs.listing.check_steps.Goals as goal

pub loop-index-init : goal.loop-index-init
loop-index-init c =
    let decks = c.args.decks.now in
    let B : List Bound → Type 0 = AreStartHeadsFor decks in
    let G : List Bound → Type 0 = AreGridHeads decks.first in
    let E : List Bound → Type 0 = EnclosesStarts decks in
    let lent = sym c.as_slice-start.ensures in
    record {
      digits = refl;
      tables = c.requires.tables;
      so_far = at_first c.args.limits decks (digits_of c.args.tables.now.first)
          (option_map (λ z. z.now) c.args.zones) c.args.listing.now c.as_slice-start.result.now (subst B lent c.in_ok-start_heads.ensures.bounds)
          (subst G lent c.in_ok-start_heads.ensures.heads) (subst E lent c.in_ok-start_heads.ensures.encloses) c.requires.listing;
    }

pub step_at-listed-requires : goal.step_at-listed-requires
step_at-listed-requires c =
    step_there c.args.limits c.args.decks.now (digits_of c.args.tables.now.first)
    (option_map (λ z. z.now) c.args.zones) c.args.listing.now c.loop-index.index c.as_slice-at-items.result.now
    (c.as_slice-at-items.ensures.value ∙ c.in_ok-times.ensures.times) c.requires.listing c.loop-index-test.true

pub heads_before-old-requires : goal.heads_before-old-requires
heads_before-old-requires c =
    let there : c.loop-index.index < length c.args.listing.now =
    step_there c.args.limits c.args.decks.now (digits_of c.args.tables.now.first)
    (option_map (λ z. z.now) c.args.zones) c.args.listing.now c.loop-index.index c.as_slice-at-items.result.now
    (c.as_slice-at-items.ensures.value ∙ c.in_ok-times.ensures.times) c.requires.listing c.loop-index-test.true in
    omega arith

pub check_listed-requires-clause-old : goal.check_listed-requires-clause-old
check_listed-requires-clause-old c =
    let P : List Bound → Type 0 = AreGridHeads c.args.decks.now.first in
    subst P (sym c.heads_before-old.ensures) c.loop-index.invariant.so_far.grid

pub check_listed-requires-clause-digits : goal.check_listed-requires-clause-digits
check_listed-requires-clause-digits c = let D : ℕ → Type 0 = λ k. k ≤ 18 in subst D (sym c.loop-index.invariant.digits) c.requires.digits

pub check_listed-requires-clause-tables : goal.check_listed-requires-clause-tables
check_listed-requires-clause-tables c = c.loop-index.invariant.tables

pub check_listed-requires-clause-heads : goal.check_listed-requires-clause-heads
check_listed-requires-clause-heads c =
    let is = c.as_slice-at-items.ensures.value ∙ c.in_ok-times.ensures.times in
    let P : List Bound → Type 0 = AreGridHeads c.args.decks.now.first in
    subst P (sym (c.as_slice-heads.ensures ∙ ap (λ (w : ListedStep). w.heads) c.step_at-listed.ensures)) (grid_of c.args.decks.now.first (step_in c.args.listing.now c.loop-index.index)
    (listed_at c.args.limits c.args.decks.now (digits_of c.args.tables.now.first)
    (option_map (λ z. z.now) c.args.zones) c.args.listing.now c.as_slice-start.result.now c.loop-index.index c.as_slice-at-items.result.now
    (record { period = 0; step = 0 }) is c.requires.listing c.loop-index-test.true c.loop-index.invariant.so_far
    _ c.loop-index.invariant.digits c.heads_before-old.result.now c.step_at-listed.result.now c.as_slice-heads.result.now c.as_slice-flows.result.now
    c.heads_before-old.ensures c.step_at-listed.ensures c.as_slice-heads.ensures c.as_slice-flows.ensures))

pub check_listed-requires-clause-flows : goal.check_listed-requires-clause-flows
check_listed-requires-clause-flows c =
    let is = c.as_slice-at-items.ensures.value ∙ c.in_ok-times.ensures.times in
    flows_here c.args.limits c.args.decks.now (digits_of c.args.tables.now.first)
    (option_map (λ z. z.now) c.args.zones) c.args.listing.now c.as_slice-start.result.now c.loop-index.index c.as_slice-at-items.result.now
    (record { period = 0; step = 0 }) is c.requires.listing c.loop-index-test.true c.loop-index.invariant.so_far
    _ c.loop-index.invariant.digits c.heads_before-old.result.now c.step_at-listed.result.now c.as_slice-heads.result.now c.as_slice-flows.result.now
    c.heads_before-old.ensures c.step_at-listed.ensures c.as_slice-heads.ensures c.as_slice-flows.ensures

pub returns-in-Err : goal.returns-in-Err
returns-in-Err c =
    let is = c.as_slice-at-items.ensures.value ∙ c.in_ok-times.ensures.times in
    IfOk-weaker c.verdict_at.result _ _
    (λ v h.
    let verdict = stops_here c.args.limits c.args.decks.now (digits_of c.args.tables.now.first)
    (option_map (λ z. z.now) c.args.zones) c.args.listing.now c.as_slice-start.result.now c.loop-index.index c.as_slice-at-items.result.now
    (record { period = 0; step = 0 }) is c.requires.listing c.loop-index-test.true c.loop-index.invariant.so_far
    _ c.loop-index.invariant.digits c.heads_before-old.result.now c.step_at-listed.result.now c.as_slice-heads.result.now c.as_slice-flows.result.now
    c.heads_before-old.ensures c.step_at-listed.ensures c.as_slice-heads.ensures c.as_slice-flows.ensures c.in-Err.fault v c.in-Err.ensures.fault h in
    record {
      verdict = verdict;
      only = λ other k. c.one_verdict.ensures c.args.limits c.args.decks.now (digits_of c.args.tables.now.first)
          (option_map (λ z. z.now) c.args.zones) c.args.listing.now other v c.requires.decks c.requires.listing k verdict;
      encloses = λ e. absurd (not_certified _ c.in-Err.fault v h e);
      history = λ e. absurd (not_certified _ c.in-Err.fault v h e);
    })
    c.verdict_at.ensures

pub loop-index-preserved : goal.loop-index-preserved
loop-index-preserved c =
    let is = c.as_slice-at-items.ensures.value ∙ c.in_ok-times.ensures.times in
    record {
      digits = c.check_listed.ensures.tables.first.digits ∙ c.loop-index.invariant.digits;
      tables = (let T : ℕ → Type 0 = λ k. AreDeckTables c.args.decks.now k c.check_listed.new.tables in subst T (sym c.check_listed.ensures.tables.first.digits) c.check_listed.ensures.tables);
      so_far = goes_here c.args.limits c.args.decks.now (digits_of c.args.tables.now.first)
          (option_map (λ z. z.now) c.args.zones) c.args.listing.now c.as_slice-start.result.now c.loop-index.index c.as_slice-at-items.result.now
          (record { period = 0; step = 0 }) is c.requires.listing c.loop-index-test.true c.loop-index.invariant.so_far
          _ c.loop-index.invariant.digits c.heads_before-old.result.now c.step_at-listed.result.now c.as_slice-heads.result.now c.as_slice-flows.result.now
          c.heads_before-old.ensures c.step_at-listed.ensures c.as_slice-heads.ensures c.as_slice-flows.ensures c.in-Ok.ensures.passes
          c.in-Ok.ensures.encloses;
    }

pub returns : goal.returns
returns c =
    let is = c.as_slice-at-items.ensures.value ∙ c.in_ok-times.ensures.times in
    let verdict = ends_certified c.args.limits c.args.decks.now (digits_of c.args.tables.now.first)
    (option_map (λ z. z.now) c.args.zones) c.args.listing.now _ c.loop-index.index c.as_slice-at-items.result.now is c.requires.listing
    c.loop-index-test.false c.loop-index.invariant.so_far in
    record {
      verdict = verdict;
      only = λ other k. c.one_verdict.ensures c.args.limits c.args.decks.now (digits_of c.args.tables.now.first)
          (option_map (λ z. z.now) c.args.zones) c.args.listing.now other _ c.requires.decks c.requires.listing k verdict;
      encloses = λ same. ends_enclosed c.args.limits c.args.decks.now (digits_of c.args.tables.now.first)
          (option_map (λ z. z.now) c.args.zones) c.args.listing.now _ c.loop-index.index c.as_slice-at-items.result.now is c.requires.listing
          c.loop-index-test.false c.loop-index.invariant.so_far;
      history = λ same. ends_history c.args.limits c.args.decks.now (digits_of c.args.tables.now.first)
          (option_map (λ z. z.now) c.args.zones) c.args.listing.now c.requires.decks _ c.loop-index.index c.as_slice-at-items.result.now is c.requires.listing
          c.loop-index-test.false c.loop-index.invariant.so_far;
    }
