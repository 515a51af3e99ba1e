use Rattle.gentle_problem.proofs.Common.{IsFaultOver, IsProblemOver, branches_over, branches_at}
use Rattle.std.proofs.lemmas.Result.{IfErr-weaker, IfOk-weaker}
use Rattle.gentle_problem.proofs.Made.{fault_is, have_pairs, problem_is, tables_have_branches}
use Rattle.gentle_problem.proofs.problem.problem_at.Goals as goal

pub build_over-requires-clause-pairs : goal.build_over-requires-clause-pairs
build_over-requires-clause-pairs c =
    have_pairs c.args.model.now c.args.layers.now c.args.heads.now c.args.tables.now.digits c.args.at c.requires.model c.requires.ordered c.in_ok-pairs.pairs
    c.in_ok-pairs.ensures

pub build_over-requires-clause-branches : goal.build_over-requires-clause-branches
build_over-requires-clause-branches c =
    tables_have_branches c.args.model.now c.args.layers.now c.args.heads.now c.args.tables.now.digits c.args.at c.requires.model c.requires.ordered
    c.in_ok-pairs.pairs c.in_ok-pairs.ensures

pub returns-clause-problem : goal.returns-clause-problem
returns-clause-problem c =
    let m = c.args.model.now in
    let s = c.args.tables.now.digits in
    let heads = c.args.heads.now in
    IfOk-weaker c.build_over.result (IsProblemOver m s c.args.at heads (branches_over c.in_ok-pairs.pairs))
    (IsProblemOver m s c.args.at heads (branches_at m c.args.layers.now heads s))
    (problem_is m c.args.layers.now heads s c.args.at c.requires.model c.requires.ordered c.in_ok-pairs.pairs c.in_ok-pairs.ensures) c.build_over.ensures.problem

pub returns-clause-refusal : goal.returns-clause-refusal
returns-clause-refusal c =
    let m = c.args.model.now in
    let s = c.args.tables.now.digits in
    let heads = c.args.heads.now in
    IfErr-weaker c.build_over.result (IsFaultOver m s c.args.at heads (branches_over c.in_ok-pairs.pairs))
    (IsFaultOver m s c.args.at heads (branches_at m c.args.layers.now heads s))
    (fault_is m c.args.layers.now heads s c.args.at c.requires.model c.requires.ordered c.in_ok-pairs.pairs c.in_ok-pairs.ensures) c.build_over.ensures.refusal
