use Rattle.plan_chain.proofs.Common.{List, Contains, ◌+◌, arith, subst, sym, TimeStep, drop, StopsAt}
use Rattle.plan_chain.proofs.Stops.{step_stops}
use Rattle.plan_chain.proofs.walk.PlanWalk.solve.Goals as goal

pub next_plan_step-requires-clause-time : goal.next_plan_step-requires-clause-time
next_plan_step-requires-clause-time g c =
    let P : List TimeStep → Type 0 = λ ts. Contains ts c.in-Some.at in
    subst P c.requires.walk.times (c.args.self.now.done, c.in-Some.ensures.place.0, c.in-Some.ensures.place.1)

pub returns-in-Ok-clause-next : goal.returns-in-Ok-clause-next
returns-in-Ok-clause-next g c =
    let within = c.in-Some.ensures.place.0 in
    record { at = c.in-Some.at; time = c.in-Some.ensures.left; is = c.in-Ok.ensures.step; fit = c.in-Ok.ensures.heads; few = omega (arith, within, c.requires.walk.few) }

pub returns-in-Err-clause-stop : goal.returns-in-Err-clause-stop
returns-in-Err-clause-stop g c =
    let left = drop (c.args.self.now.done + 1) c.args.self.now.times in
    let T : List TimeStep → Type 0 = λ times. StopsAt c.args.task.now c.args.self.now.heads times c.stop_at.result in
    subst T (sym c.in-Some.ensures.left) (rw c.stop_at.ensures (step_stops c.args.task.now c.in-Some.at c.args.self.now.heads left c.in-Err.fault c.in-Err.ensures.fault))
