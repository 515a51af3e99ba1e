use Rattle.gentle_steps.proofs.Common.{◌∙◌, ap, arith, map, side_bound, range_with_len, [], sym, ◌++◌, ◌∷◌, map-range_with_len_more}
use Rattle.gentle_steps.proofs.sides.side_bounds.Goals as goal

pub loop-cell-init : goal.loop-cell-init
loop-cell-init c = c.new-bounds.ensures.items

pub loop-cell-preserved : goal.loop-cell-preserved
loop-cell-preserved c =
    c.in_ok-push.ensures.items ∙ (λ t. c.loop-cell.invariant t ++ c.side_bound.ensures t ∷ [])
    ∙ sym (map-range_with_len_more (side_bound c.args.model.now c.args.at c.args.listed.now c.args.side) 0 c.loop-cell.cell c.loop-cell.cell (omega arith))

pub returns : goal.returns
returns c =
    c.loop-cell.invariant
    ∙ ap (λ n. map (side_bound c.args.model.now c.args.at c.args.listed.now c.args.side) (range_with_len 0 n)) (omega (arith, c.cell_count-count.ensures.count, c.loop-cell-test.false))
