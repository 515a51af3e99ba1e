use Rattle.problem_builder.proofs.Common.{option_map, branches_of, link_over, ap, ◌∙◌, arith, faces, is_variable, through, Inputs, ◌≡◌, length}
use Rattle.problem_builder.proofs.{CellFaces.face_within, Joined.push_next, Joined.made_all}
use Rattle.problem_builder.proofs.branches.links.Goals as goal

pub link_through-requires-clause-face : goal.link_through-requires-clause-face
link_through-requires-clause-face c =
    let len : length c.faces-faces.result ≡ 6 = ap length c.faces-faces.ensures.faces in
    face_within c.args.input.now.model.grid c.args.cell _ c.loop-face.face-index _ c.requires.input.size c.requires.cell.within
    (c.faces-faces.ensures.faces ∙ ap (λ (z : Inputs). faces z.model.grid c.args.cell) c.input.view_is) (omega (arith, len, c.loop-face-test.true))

pub loop-face-preserved : goal.loop-face-preserved
loop-face-preserved c =
    let i = c.args.input.now in
    let len : length c.faces-faces.result ≡ 6 = ap length c.faces-faces.ensures.faces in
    push_next (λ o. option_map (link_over i.model i.tables.digits i.at i.old (branches_of i)) (through (is_variable i.model i.at.period) o)) c.faces-faces.result
    c.loop-face.face-index _ _ _ c.link_through.result
    (omega (arith, len, c.loop-face-test.true)) c.in_ok-push_some.ensures c.link_through.ensures c.loop-face.invariant

pub returns : goal.returns
returns c =
    let i = c.args.input.now in
    let len : length c.faces-faces.result ≡ 6 = ap length c.faces-faces.ensures.faces in
    made_all (link_over i.model i.tables.digits i.at i.old (branches_of i)) (through (is_variable i.model i.at.period)) c.faces-faces.result _ c.loop-face.face-index _
    (omega (arith, len, c.loop-face-test.false))
    (c.faces-faces.ensures.faces ∙ ap (λ (z : Inputs). faces z.model.grid c.args.cell) c.input.view_is) c.loop-face.invariant
