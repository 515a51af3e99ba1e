use Rattle.problem_builder.proofs.Common.{ap, ◌∙◌, capped_pair, small_pair, ◌+◌, sym, subst, Column, stride, thickness, IsPositive, column_of, delr_positive}
use Rattle.problem_builder.proofs.Fits.{kept_pair}
use Rattle.problem_builder.proofs.faces.column_pair.Goals as goal

pub returns : goal.returns
unfolding capped_pair
returns c =
    let m = c.args.model.now in
    let a = c.args.first in
    let x = c.col_half-a.ensures.is in
    let y = c.col_half-b.ensures.is in
    let w = c.delr_at.ensures in
    c.capped_pair.ensures ∙ ap kept_pair (c.col_branch.ensures.rounded (thickness m a) (thickness m (a + stride m.grid Column)) ∙ (λ t.
    small_pair (column_of (x t) (y t) (w t) (thickness m a) (thickness m (a + stride m.grid Column))) c.args.s))

pub col_branch-requires-clause-width : goal.col_branch-requires-clause-width
col_branch-requires-clause-width c = subst IsPositive (sym c.delr_at.ensures) (delr_positive c.args.model.now c.args.first c.requires.model)
