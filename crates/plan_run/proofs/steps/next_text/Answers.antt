use Rattle.plan_run.proofs.Common.{List, TimeStep, subst, Contains}
use Rattle.plan_run.proofs.Walking.{step_at}
use Rattle.plan_run.proofs.steps.next_text.Goals as goal

pub step_text-requires-clause-flows : goal.step_text-requires-clause-flows
step_text-requires-clause-flows g c =
    let k = c.args.task.now in
    let s = c.args.walk.now in
    let at = c.in-Some.at in
    let P : List TimeStep → Type 0 = λ ts. Contains ts at in
    let time = subst P c.requires.walk.times (s.done, c.in-Some.ensures.place.0, c.in-Some.ensures.place.1) in
    let n = c.in-Ok.ensures.next in
    c.plan_steps_have_flows.ensures k at s.heads c.in-Ok.solved c.requires.task time c.requires.walk.heads
    (step_at k s at c.in-Some.ensures.left c.in-Ok.solved n) n.fit
