use Rattle.problem_builder.proofs.Common.{sym, ap, ◌∙◌, is_active, after_within}
use Rattle.problem_builder.proofs.Halves.{next_face}
use Rattle.problem_builder.proofs.faces.is_branch.Goals as goal

pub returns-then-is_active-clause-branch : goal.returns-then-is_active-clause-branch
returns-then-is_active-clause-branch c = λ t.
    let m = c.args.model.now in
    let (has, end) = next_face m.grid c.args.axis c.args.cell c.in-Some.face (sym c.in-Some.is ∙ c.face_after.ensures) in
    record {
      within = after_within m.grid c.args.axis c.args.cell c.requires.size c.requires.cell has;
      first = sym c.is_active.ensures ∙ c.if-is_active.true;
      second = ap (is_active m) (sym end) ∙ sym c.is_active-then-is_active.ensures ∙ t;
    }
