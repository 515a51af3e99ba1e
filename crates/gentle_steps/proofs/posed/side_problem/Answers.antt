use Rattle.gentle_steps.proofs.Common.{◌∙◌, List, sym, subst, AreGridHeads, AreOrdered, Bound, IfErr-weaker, IfErr, IfOk, time_of, IsFaultOver, IsProblemOver, branches_at}
use Rattle.gentle_steps.proofs.{Posing.no_problem, SideHeads.side_grid, SideHeads.side_ordered}
use Rattle.gentle_steps.proofs.posed.side_problem.Goals as goal

pub problem_at-requires-clause-heads : goal.problem_at-requires-clause-heads
problem_at-requires-clause-heads c =
    let m = c.args.model.now in
    subst (AreGridHeads m) (sym (c.as_slice.ensures.value ∙ c.in_ok-bounds.ensures))
    (side_grid m c.args.at c.args.listed.now c.args.side c.requires.model (time_of m c.args.at c.requires.model c.requires.time) c.requires.listed)

pub problem_at-requires-clause-ordered : goal.problem_at-requires-clause-ordered
problem_at-requires-clause-ordered c =
    let m = c.args.model.now in
    subst (AreOrdered m) (sym (c.as_slice.ensures.value ∙ c.in_ok-bounds.ensures))
    (side_ordered m c.args.at c.args.listed.now c.args.side c.requires.model (time_of m c.args.at c.requires.model c.requires.time) c.requires.listed)

pub returns-clause-problem : goal.returns-clause-problem
returns-clause-problem c =
    let m = c.args.model.now in
    let s = c.args.tables.now.digits in
    let P : List Bound → Type 0 = λ hs. IfOk c.problem_at.result (IsProblemOver m s c.args.at hs (branches_at m c.args.layers.now hs s)) in
    subst P (c.as_slice.ensures.value ∙ c.in_ok-bounds.ensures) c.problem_at.ensures.problem

pub returns-clause-refusal : goal.returns-clause-refusal
returns-clause-refusal c =
    let m = c.args.model.now in
    let s = c.args.tables.now.digits in
    let P : List Bound → Type 0 = λ hs. IfErr c.problem_at.result (IsFaultOver m s c.args.at hs (branches_at m c.args.layers.now hs s)) in
    IfErr-weaker c.problem_at.result _ _ (no_problem m c.args.layers.now s c.args.at c.args.listed.now c.args.side)
    (subst P (c.as_slice.ensures.value ∙ c.in_ok-bounds.ensures) c.problem_at.ensures.refusal)
