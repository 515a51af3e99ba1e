use Rattle.problem_builder.proofs.Common.{sym, ◌∙◌, is_variable, branches_of, link_over}
use Rattle.problem_builder.proofs.Joined.{made_through}
use Rattle.problem_builder.proofs.branches.link_through.Goals as goal

pub returns-in-Some : goal.returns-in-Some
returns-in-Some c =
    let i = c.args.input.now in
    let f = c.in-Some.face in
    let v = sym c.is_variable.ensures ∙ c.if-is_variable.true in
    let cell = c.index.ensures in
    let pair = c.face_pair-pair.ensures in
    made_through (link_over i.model i.tables.digits i.at i.old (branches_of i)) (is_variable i.model i.at.period) c.args.face f _ c.in-Some.is v
    (λ t. record { cell = cell t; lo = (pair t).lo; hi = (pair t).hi })
