use Rattle.plan_check.proofs.Common.{arith, length, ◌<◌, ◌∙◌, IfOk-weaker}
use Rattle.plan_check.proofs.Checking.{at_first, ends_certified, fit_here, goes_here, listed_here, step_there, stops_here, time_here}
use Rattle.plan_check.proofs.listing.check_steps.Goals as goal

pub loop-index-init : goal.loop-index-init
loop-index-init c = record {
  base_tables = c.requires.base_tables;
  planned_tables = c.requires.planned_tables;
  so_far = at_first c.args.task.now c.args.listing.now c.in_ok-start.start c.in_ok-start.ensures.start c.in_ok-start.ensures.fit c.requires.listing;
}

pub step_at-requires : goal.step_at-requires
step_at-requires c =
    step_there c.args.task.now c.args.listing.now c.loop-index.index c.as_slice-at-items.result.now
    (c.as_slice-at-items.ensures.value ∙ c.in_ok-times.ensures.times) c.requires.listing c.loop-index-test.true

pub heads_before-old-requires : goal.heads_before-old-requires
heads_before-old-requires c =
    let there : c.loop-index.index < length c.args.listing.now =
    step_there c.args.task.now c.args.listing.now c.loop-index.index c.as_slice-at-items.result.now
    (c.as_slice-at-items.ensures.value ∙ c.in_ok-times.ensures.times) c.requires.listing c.loop-index-test.true in
    omega arith

pub check_step-requires-clause-time : goal.check_step-requires-clause-time
check_step-requires-clause-time c =
    time_here c.args.task.now c.args.listing.now c.in_ok-start.start c.loop-index.index c.as_slice-at-items.result.now (record { period = 0; step = 0 })
    (c.as_slice-at-items.ensures.value ∙ c.in_ok-times.ensures.times) c.requires.listing c.loop-index-test.true c.loop-index.invariant.so_far
    _ c.step_at.result.now c.heads_before-old.ensures c.step_at.ensures

pub check_step-requires-clause-old : goal.check_step-requires-clause-old
check_step-requires-clause-old c =
    fit_here c.args.task.now c.args.listing.now c.in_ok-start.start c.loop-index.index c.as_slice-at-items.result.now (record { period = 0; step = 0 })
    (c.as_slice-at-items.ensures.value ∙ c.in_ok-times.ensures.times) c.requires.listing c.loop-index-test.true c.loop-index.invariant.so_far
    _ c.step_at.result.now c.heads_before-old.ensures c.step_at.ensures

pub check_step-requires-clause-listed : goal.check_step-requires-clause-listed
check_step-requires-clause-listed c =
    listed_here c.args.task.now c.args.listing.now c.in_ok-start.start c.loop-index.index c.as_slice-at-items.result.now (record { period = 0; step = 0 })
    (c.as_slice-at-items.ensures.value ∙ c.in_ok-times.ensures.times) c.requires.listing c.loop-index-test.true c.loop-index.invariant.so_far
    _ c.step_at.result.now c.heads_before-old.ensures c.step_at.ensures

pub returns-in-Err : goal.returns-in-Err
returns-in-Err c =
    IfOk-weaker c.verdict_at.result _ _
    (λ v h.
    stops_here c.args.task.now c.args.listing.now c.in_ok-start.start c.loop-index.index c.as_slice-at-items.result.now (record { period = 0; step = 0 })
    (c.as_slice-at-items.ensures.value ∙ c.in_ok-times.ensures.times) c.requires.listing c.loop-index-test.true c.loop-index.invariant.so_far
    _ c.step_at.result.now c.heads_before-old.ensures c.step_at.ensures c.in-Err.fault v c.in-Err.ensures.fault h)
    c.verdict_at.ensures

pub loop-index-preserved : goal.loop-index-preserved
loop-index-preserved c = record {
  base_tables = c.check_step.ensures.base_tables;
  planned_tables = c.check_step.ensures.planned_tables;
  so_far = goes_here c.args.task.now c.args.listing.now c.in_ok-start.start c.loop-index.index c.as_slice-at-items.result.now (record { period = 0; step = 0 })
      (c.as_slice-at-items.ensures.value ∙ c.in_ok-times.ensures.times) c.requires.listing c.loop-index-test.true c.loop-index.invariant.so_far
      _ c.step_at.result.now c.heads_before-old.ensures c.step_at.ensures c.requires.task c.in-Ok.ensures.passes;
}

pub returns : goal.returns
returns c =
    ends_certified c.args.task.now c.args.listing.now _ c.loop-index.index c.as_slice-at-items.result.now
    (c.as_slice-at-items.ensures.value ∙ c.in_ok-times.ensures.times) c.requires.listing c.loop-index-test.false c.loop-index.invariant.so_far
