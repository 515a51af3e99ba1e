use Rattle.settle_driver.proofs.Common.{List, subst, Bound, lower_at, upper_at, AreSettled, PairKind, IsGiven, HaveLeft}
use Rattle.step_problem.proofs.Leaving.{leaving_settles}
use Rattle.settle_driver.proofs.trials.settled_near.Goals as goal

pub returns-then-have_left-clause-settled : goal.returns-then-have_left-clause-settled
returns-then-have_left-clause-settled g c =
    let p = c.args.p.now in
    let b = c.args.b.now in
    let inner = c.in_ok-inner.inner in
    let bounds : List Bound = c.in-Ok.bounds.items in
    let P : PairKind → Type 0 = λ kind. IsGiven p kind inner bounds in
    let settled : AreSettled p inner bounds = subst P c.requires.kind c.in-Ok.ensures.settles in
    let left = subst (λ (x : List Bound). HaveLeft p b inner (lower_at x) (upper_at x)) c.as_slice-in-loop-trial.ensures.value (c.have_left.ensures c.if-have_left.true) in
    record {
      whole = settled.whole;
      pair = leaving_settles p b inner (lower_at bounds) (upper_at bounds) c.recall_conditions.ensures.fits c.in_ok-inner.ensures.inside settled.pair left;
    }
