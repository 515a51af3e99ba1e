use Rattle.conductance_bounds.proofs.{Capped.small_encloses, RowBounds.column_encloses}
use Rattle.conductance_bounds.proofs.horizontal.col_branch.Goals as goal

pub returns-clause-rounded : goal.returns-clause-rounded
returns-clause-rounded c = λ f g. c.rounded_pair.ensures.bounds _
    (c.in_a_row.ensures.bounds _ _ (c.resistance-first.ensures.bounds _ _ _ c.exact_span-width.ensures.bounds c.along_column.ensures.bounds
    (c.span_of-thick.ensures.bounds f)) (c.resistance-second.ensures.bounds _ _ _ c.exact_span-width.ensures.bounds c.along_column-2.ensures.bounds
    (c.span_of-thick-2.ensures.bounds g)))

pub returns-clause-encloses : goal.returns-clause-encloses
returns-clause-encloses c = λ f g x y. small_encloses _ c.args.s _ _ (returns-clause-rounded c f g)
    (column_encloses c.args.a.now c.args.b.now c.args.width c.args.s c.requires.first c.requires.second c.requires.width f g x y)
