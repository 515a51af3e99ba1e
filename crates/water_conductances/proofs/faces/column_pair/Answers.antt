use Rattle.water_conductances.proofs.Common.{ap, sym, subst, ◌∙◌, delr_positive, column_of, small_pair, IsPositive, one, kept_pair}
unfoldable use Rattle.conductance_bounds.specs.{capped_pair}
use Rattle.water_conductances.proofs.faces.column_pair.Goals as goal

pub returns : goal.returns
unfolding capped_pair
returns c =
    let x = c.column_half-a.ensures.is in
    let y = c.column_half-b.ensures.is in
    let w = c.delr_at.ensures in
    c.capped_pair.ensures ∙ ap kept_pair (c.col_branch.ensures.rounded one one ∙ (λ i. small_pair (column_of (x i) (y i) (w i) one one) c.args.s))

pub col_branch-requires-clause-width : goal.col_branch-requires-clause-width
col_branch-requires-clause-width c = subst IsPositive (sym c.delr_at.ensures) (delr_positive c.args.model.now c.args.first c.requires.model)
