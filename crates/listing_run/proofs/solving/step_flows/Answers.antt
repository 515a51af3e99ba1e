use Rattle.listing_run.proofs.Common.{rules, refl, AreFlowsAt, FlowsEnclose, HasLargeFlow}
use Rattle.listing_run.proofs.Moves.{bounds_moves, budget_refused, flows_refused, step_is}
use Rattle.listing_run.proofs.solving.step_flows.Goals as goal

pub returns-in-Err-clause-stop : goal.returns-in-Err-clause-stop
returns-in-Err-clause-stop c = λ old rest solves. (
  refl,
  budget_refused c.args.task.now c.args.at c.args.solved.now c.as_slice.result.now c.as_slice.ensures c.in-Err.refusal c.in-Err.ensures.budget old
      solves,
)

pub returns-in-Ok-flows_of-clause-step : goal.returns-in-Ok-flows_of-clause-step
returns-in-Ok-flows_of-clause-step c =
    let are : AreFlowsAt c.args.task.now.zones c.args.solved.now c.in-Ok-flows_of.flows.items = search rules in
    rw c.new.ensures (step_is c.args.task.now c.args.at c.args.solved.now c.as_slice.result.now c.as_slice.ensures c.in-Ok.budget c.in-Ok.ensures.budget c.in-Ok-flows_of.flows.items are)

pub returns-in-Ok-flows_of-clause-encloses : goal.returns-in-Ok-flows_of-clause-encloses
returns-in-Ok-flows_of-clause-encloses c =
    let k = c.args.task.now in
    let x = c.args.solved.now in
    let zones : FlowsEnclose x.problem x.heads k.zones c.in-Ok-flows_of.flows.items = search rules in
    rw c.new.ensures (bounds_moves k c.args.at x c.as_slice.result.now c.as_slice.ensures c.heads_within.ensures c.in-Ok.budget c.in-Ok-flows_of.flows.items
    c.in-Ok.ensures.encloses c.requires.named zones)

pub returns-in-Err-NoBound-clause-stop : goal.returns-in-Err-NoBound-clause-stop
returns-in-Err-NoBound-clause-stop c =
    let k = c.args.task.now in
    let x = c.args.solved.now in
    let large : HasLargeFlow k.zones x c.in-Err-NoBound.refusal = search rules in
    rw c.in-Err-NoBound.field-0-is (λ old rest solves. (
      refl,
      flows_refused k c.args.at x c.as_slice.result.now c.as_slice.ensures c.in-Ok.budget c.in-Ok.ensures.budget c.in-Err-NoBound.refusal large old
          solves,
    ))
