use Rattle.problem_builder.proofs.Common.{ap, ◌∙◌, constant_faces, local_entries, branches_of, LocalBounds}
use Rattle.problem_builder.proofs.Joined.{fixed_are, first_is_pushed, extended}
use Rattle.problem_builder.proofs.cell.fixed_branches.Goals as goal

pub returns : goal.returns
returns c =
    let i = c.args.input.now in
    let are = c.entries.view_is ∙ c.entries-entries.ensures ∙ c.requires.input.period.local c.args.cell in
    fixed_are i.model i.tables.digits i.at i.old (branches_of i) c.args.cell c.stored_branch-stored.result (branches_of i).stored
    (constant_faces i.model i.at.period c.args.cell) c.in_ok-constants.constants.items _ (local_entries i.model i.at.period c.args.cell) _ _ _
    (first_is_pushed _ _ c.stored_branch-stored.result c.in_ok-fixed.ensures.items c.in_ok-push_some.ensures) c.stored_branch-stored.ensures
    c.in_ok-constants.ensures (ap (λ (x : LocalBounds). x.generals) are)
    (extended _ _ _ _ c.deref.ensures.value c.in_ok-extend_from_slice.ensures.items) c.in_ok-extend_from_slice-2.ensures.items
