use Rattle.problem_builder.proofs.Common.{ap, ◌∙◌, capped_pair, small_pair, ◌+◌, sym, subst, Row, stride, thickness, IsPositive, row_of, delc_positive}
use Rattle.problem_builder.proofs.Fits.{kept_pair}
use Rattle.problem_builder.proofs.faces.row_pair.Goals as goal

pub returns : goal.returns
unfolding capped_pair
returns c =
    let m = c.args.model.now in
    let a = c.args.first in
    let x = c.row_half-a.ensures.is in
    let y = c.row_half-b.ensures.is in
    let w = c.delc_at.ensures in
    c.capped_pair.ensures ∙ ap kept_pair (c.row_branch.ensures.rounded (thickness m a) (thickness m (a + stride m.grid Row)) ∙ (λ t.
    small_pair (row_of (x t) (y t) (w t) (thickness m a) (thickness m (a + stride m.grid Row))) c.args.s))

pub row_branch-requires-clause-width : goal.row_branch-requires-clause-width
row_branch-requires-clause-width c = subst IsPositive (sym c.delc_at.ensures) (delc_positive c.args.model.now c.args.first c.requires.model)
