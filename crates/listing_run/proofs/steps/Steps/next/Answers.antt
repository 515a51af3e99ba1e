use Rattle.listing_run.proofs.Common.{List, ◌+◌, Contains, arith, drop, refl, subst, sym, true, inr, Bound, TimeStep, StopsAt, IsSettledBy, RestsOrSettles, RestsOrSettlesFirst}
use Rattle.listing_run.proofs.{Moves.moves_by, Moves.solved_by, Moves.step_stops, Settled.rests_or_settles, Settled.led_problem_settles}
use Rattle.listing_run.proofs.steps.Steps.next.Goals as goal

pub solve-requires-clause-time : goal.solve-requires-clause-time
solve-requires-clause-time g c =
    let P : List TimeStep → Type 0 = λ ts. Contains ts c.in-Some.at in
    subst P c.requires.walk.times (c.args.self.now.done, c.in-Some.ensures.place.0, c.in-Some.ensures.place.1)

pub returns-in-Ok-step_flows-clause-next : goal.returns-in-Ok-step_flows-clause-next
returns-in-Ok-step_flows-clause-next g c =
    let k = c.args.task.now in
    let at = c.in-Some.at in
    let x = c.in-Ok.solved in
    let L : List Bound → Type 0 = λ old. IsSettledBy g.S.Settler.leads k at old true c.args.settler.now c.solve.new.settler in
    let within = c.in-Some.ensures.place.0 in
    rw c.heads_of.ensures (record {
      at = at;
      time = c.in-Some.ensures.left;
      is = c.in-Ok-step_flows.ensures.step _ (solved_by k at _ refl _ _ c.as_slice.ensures _ c.requires.pairs x c.in-Ok.ensures.step);
      heads = refl;
      encloses = c.in-Ok-step_flows.ensures.encloses _ (moves_by k at _ refl _ _ c.as_slice.ensures x c.in-Ok.ensures.encloses);
      led = subst L c.as_slice.ensures (led_problem_settles k _ at _ refl g.S.Settler.leads _ _ true x.problem c.in-Ok.ensures.step.posed.problem c.in-Ok.ensures.leads);
      grid = c.in-Ok.ensures.heads;
      few = omega (arith, within, c.requires.walk.few);
      done = refl;
    })

pub returns-in-Err-step_flows-clause-stop : goal.returns-in-Err-step_flows-clause-stop
returns-in-Err-step_flows-clause-stop g c =
    let k = c.args.task.now in
    let at = c.in-Some.at in
    let left = drop (c.args.self.now.done + 1) c.args.self.now.times in
    let T : List TimeStep → Type 0 = λ times. StopsAt k c.args.self.now.heads times c.in-Err-step_flows.stop in
    let solved = solved_by k at _ refl _ _ c.as_slice.ensures _ c.requires.pairs c.in-Ok.solved c.in-Ok.ensures.step in
    subst T (sym c.in-Some.ensures.left) (c.in-Err-step_flows.ensures.stop _ left solved)

pub returns-in-Err-step_flows-clause-led : goal.returns-in-Err-step_flows-clause-led
returns-in-Err-step_flows-clause-led g c =
    let k = c.args.task.now in
    let at = c.in-Some.at in
    let H : List Bound → Type 0 = λ old. RestsOrSettles g.S.Settler.leads k at old c.args.settler.now c.solve.new.settler in
    let T : List TimeStep → Type 0 = λ times. RestsOrSettlesFirst g.S.Settler.leads k times c.args.self.now.heads c.args.settler.now c.solve.new.settler in
    let led = inr (true, led_problem_settles k _ at _ refl g.S.Settler.leads _ _ true c.in-Ok.solved.problem c.in-Ok.ensures.step.posed.problem c.in-Ok.ensures.leads) in
    subst T (sym c.in-Some.ensures.left) (subst H c.as_slice.ensures led)

pub returns-in-Err-clause-stop : goal.returns-in-Err-clause-stop
returns-in-Err-clause-stop g c =
    let k = c.args.task.now in
    let at = c.in-Some.at in
    let left = drop (c.args.self.now.done + 1) c.args.self.now.times in
    let T : List TimeStep → Type 0 = λ times. StopsAt k c.args.self.now.heads times c.stop_at.result in
    subst T (sym c.in-Some.ensures.left) (rw c.stop_at.ensures
    (step_stops k at _ refl _ _ c.as_slice.ensures _ c.in-Err.fault c.requires.rounds c.in-Err.ensures.fault left))

pub returns-in-Err-clause-led : goal.returns-in-Err-clause-led
returns-in-Err-clause-led g c =
    let k = c.args.task.now in
    let at = c.in-Some.at in
    let H : List Bound → Type 0 = λ old. RestsOrSettles g.S.Settler.leads k at old c.args.settler.now c.solve.new.settler in
    let T : List TimeStep → Type 0 = λ times. RestsOrSettlesFirst g.S.Settler.leads k times c.args.self.now.heads c.args.settler.now c.solve.new.settler in
    subst T (sym c.in-Some.ensures.left) (subst H c.as_slice.ensures (rests_or_settles k _ at _ refl g.S.Settler.leads _ _ c.in-Err.ensures.leads))
