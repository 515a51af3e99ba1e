use Rattle.gentle_run.proofs.Common.{◌∙◌, ◌≡◌, ◌+◌, ◌<◌, ℕ, List, Option, ap, arith, drop, get_or, length, subst, suc, sym, times, AreFlows, AreGridHeads, Bound, TimeStep, ListedStep, Passes}
use Rattle.gentle_run.proofs.Common.{StepFailsBy, step_in, IfOk-weaker, GentleFault, heads_before, pairs_in, option_map, ZoneFlow, time_of}
use Rattle.check_run.proofs.Checking.{lent_step}
use Rattle.gentle_run.proofs.Checking.{IsSoFar, at_first, ends, flows_here, goes_here, grid_here, step_there, stops_here, time_here}
use Rattle.gentle_run.proofs.listing.check_steps.Goals as goal

pub loop-index-init : goal.loop-index-init
loop-index-init c = record {
  kept = c.requires.first;
  so_far = at_first c.args.model.now c.args.layers.now c.args.tables.now.digits (option_map (λ z. z.now) c.args.zones) c.args.listing.now c.args.start.now c.requires.model
      c.requires.start c.requires.listing;
}

pub heads_before-old-requires : goal.heads_before-old-requires
heads_before-old-requires c =
    let is = c.as_slice-at-items.ensures.value ∙ c.in_ok-times.ensures.times in
    let there : c.loop-index.index < length c.args.listing.now =
    step_there c.args.model.now c.args.layers.now c.args.tables.now.digits (option_map (λ z. z.now) c.args.zones) c.args.listing.now c.as_slice-at-items.result.now is
    c.requires.listing (heads_before c.args.listing.now c.args.start.now c.loop-index.index) c.loop-index.index c.loop-index.invariant.so_far c.loop-index-test.true in
    omega arith

pub step_at-step-requires : goal.step_at-step-requires
step_at-step-requires c =
    let is = c.as_slice-at-items.ensures.value ∙ c.in_ok-times.ensures.times in
    step_there c.args.model.now c.args.layers.now c.args.tables.now.digits (option_map (λ z. z.now) c.args.zones) c.args.listing.now c.as_slice-at-items.result.now is
    c.requires.listing (heads_before c.args.listing.now c.args.start.now c.loop-index.index) c.loop-index.index c.loop-index.invariant.so_far c.loop-index-test.true

pub tables_of-requires-clause-kept : goal.tables_of-requires-clause-kept
tables_of-requires-clause-kept c = c.loop-index.invariant.kept

pub tables_of-requires-clause-period : goal.tables_of-requires-clause-period
tables_of-requires-clause-period c =
    let m = c.args.model.now in
    let is = c.as_slice-at-items.ensures.value ∙ c.in_ok-times.ensures.times in
    (time_of m _ c.requires.model (time_here m c.args.layers.now c.args.tables.now.digits (option_map (λ z. z.now) c.args.zones) c.args.listing.now c.as_slice-at-items.result.now is
    c.requires.listing (heads_before c.args.listing.now c.args.start.now c.loop-index.index) c.loop-index.index c.loop-index.invariant.so_far (record { period = 0; step = 0 })
    c.loop-index-test.true)).period

pub check_step-requires-clause-heads : goal.check_step-requires-clause-heads
check_step-requires-clause-heads c =
    let m = c.args.model.now in
    let is = c.as_slice-at-items.ensures.value ∙ c.in_ok-times.ensures.times in
    subst (AreGridHeads m) (sym (c.as_slice-heads.ensures ∙ ap (λ (x : ListedStep). x.heads) c.step_at-step.ensures))
    (grid_here m c.args.layers.now c.args.tables.now.digits (option_map (λ z. z.now) c.args.zones) c.args.listing.now c.as_slice-at-items.result.now is
    c.requires.listing (heads_before c.args.listing.now c.args.start.now c.loop-index.index) c.loop-index.index c.loop-index.invariant.so_far (record { period = 0; step = 0 })
    c.loop-index-test.true)

pub check_step-requires-clause-flows : goal.check_step-requires-clause-flows
check_step-requires-clause-flows c =
    let m = c.args.model.now in
    let items = c.as_slice-at-items.result.now in
    let i = c.loop-index.index in
    let d : TimeStep = record { period = 0; step = 0 } in
    let zones = option_map (λ z. z.now) c.args.zones in
    let is = c.as_slice-at-items.ensures.value ∙ c.in_ok-times.ensures.times in
    let F : List ZoneFlow → Type 0 = AreFlows (pairs_in m zones (get_or items i d).period) in
    subst F (sym (c.as_slice-flows.ensures ∙ ap (λ (x : ListedStep). x.zones) c.step_at-step.ensures))
    (flows_here m c.args.layers.now c.args.tables.now.digits zones c.args.listing.now items is c.requires.listing
    (heads_before c.args.listing.now c.args.start.now i) i c.loop-index.invariant.so_far d c.loop-index-test.true)

pub returns-in-Err : goal.returns-in-Err
returns-in-Err c =
    let m = c.args.model.now in
    let w = c.args.layers.now in
    let s = c.args.tables.now.digits in
    let all = c.args.listing.now in
    let zones = option_map (λ z. z.now) c.args.zones in
    let items = c.as_slice-at-items.result.now in
    let is = c.as_slice-at-items.ensures.value ∙ c.in_ok-times.ensures.times in
    let i = c.loop-index.index in
    let d : TimeStep = record { period = 0; step = 0 } in
    let P : List Bound → ListedStep → Type 0 = λ o x. StepFailsBy m w s zones (get_or items i d) o x c.in-Err.fault in
    let fails = lent_step P c.heads_before-old.result.now (heads_before all c.args.start.now i) c.as_slice-heads.result.now c.as_slice-flows.result.now c.step_at-step.result.now
    (step_in all i) c.heads_before-old.ensures c.step_at-step.ensures c.as_slice-heads.ensures c.as_slice-flows.ensures c.in-Err.ensures.fails in
    IfOk-weaker c.verdict_at.result _ _
    (λ v h. stops_here m w s zones all items is c.requires.listing (heads_before all c.args.start.now i) i c.loop-index.invariant.so_far d c.loop-index-test.true
    c.in-Err.fault v fails h) c.verdict_at.ensures

pub loop-index-preserved : goal.loop-index-preserved
loop-index-preserved c =
    let m = c.args.model.now in
    let w = c.args.layers.now in
    let s = c.args.tables.now.digits in
    let all = c.args.listing.now in
    let zones = option_map (λ z. z.now) c.args.zones in
    let items = c.as_slice-at-items.result.now in
    let is = c.as_slice-at-items.ensures.value ∙ c.in_ok-times.ensures.times in
    let i = c.loop-index.index in
    let d : TimeStep = record { period = 0; step = 0 } in
    let P : List Bound → ListedStep → Type 0 = λ o x. Passes m w s zones (get_or items i d) o x in
    let passes = lent_step P c.heads_before-old.result.now (heads_before all c.args.start.now i) c.as_slice-heads.result.now c.as_slice-flows.result.now c.step_at-step.result.now
    (step_in all i) c.heads_before-old.ensures c.step_at-step.ensures c.as_slice-heads.ensures c.as_slice-flows.ensures c.in-Ok.ensures.passes in
    let Q : ℕ → Type 0 = λ k. IsSoFar m w s zones all (heads_before all c.args.start.now k) (drop (i + 1) (times m)) (drop (i + 1) all) in
    let next : suc i ≡ i + 1 = omega arith in
    record {
      kept = c.in_ok-period.ensures.0;
      so_far = subst Q next
          (goes_here m w s zones all items is c.requires.listing (heads_before all c.args.start.now i) i c.loop-index.invariant.so_far d c.loop-index-test.true passes);
    }

pub returns : goal.returns
returns c =
    let is = c.as_slice-at-items.ensures.value ∙ c.in_ok-times.ensures.times in
    ends c.args.model.now c.args.layers.now c.args.tables.now.digits (option_map (λ z. z.now) c.args.zones) c.args.listing.now c.as_slice-at-items.result.now is c.requires.listing
    (heads_before c.args.listing.now c.args.start.now c.loop-index.index) c.loop-index.index c.loop-index.invariant.so_far c.loop-index-test.false
