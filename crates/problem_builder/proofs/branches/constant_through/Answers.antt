use Rattle.problem_builder.proofs.Common.{subst, sym, ap, cond, ◌∙◌, is_constant, IsInGrid, branches_of, constant_over, known_head, known_bound, constant_bound, no_bound, cell_count, Constant}
use Rattle.problem_builder.proofs.{CellFits.item_is, Joined.made_through}
use Rattle.problem_builder.proofs.branches.constant_through.Goals as goal

pub returns-in-Some : goal.returns-in-Some
returns-in-Some c =
    let i = c.args.input.now in
    let f = c.in-Some.face in
    let h = subst (IsInGrid i.model.grid) c.in-Some.is c.requires.face in
    let v = sym c.is_constant.ensures ∙ c.if-is_constant.true in
    let pair = c.face_pair-pair.ensures in
    let head = c.given_head-head.ensures ∙ item_is (known_bound i.model i.at) no_bound
    (cell_count i.model.grid) i.step.heads c.requires.input.step.heads f.end h.1 ∙ ap (λ b. cond b (constant_bound i.model i.at f.end) no_bound) v in
    made_through (constant_over i.model i.tables.digits i.at i.old (branches_of i)) (is_constant i.model i.at.period) c.args.face f _ c.in-Some.is v
    (c.known_head.ensures ∙ (λ t. known_head Constant f.end (pair t) (head t)))
