use Rattle.water_conductances.proofs.Common.{ap, sym, subst, ◌∙◌, delc_positive, row_of, small_pair, IsPositive, one, kept_pair}
unfoldable use Rattle.conductance_bounds.specs.{capped_pair}
use Rattle.water_conductances.proofs.faces.row_pair.Goals as goal

pub returns : goal.returns
unfolding capped_pair
returns c =
    let x = c.row_half-a.ensures.is in
    let y = c.row_half-b.ensures.is in
    let w = c.delc_at.ensures in
    c.capped_pair.ensures ∙ ap kept_pair (c.row_branch.ensures.rounded one one ∙ (λ i. small_pair (row_of (x i) (y i) (w i) one one) c.args.s))

pub row_branch-requires-clause-width : goal.row_branch-requires-clause-width
row_branch-requires-clause-width c = subst IsPositive (sym c.delc_at.ensures) (delc_positive c.args.model.now c.args.first c.requires.model)
