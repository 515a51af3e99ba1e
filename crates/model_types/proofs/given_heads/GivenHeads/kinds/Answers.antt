use Rattle.model_types.proofs.Common.{◌++◌, [], ◌∷◌, map, ap, sym, ◌∙◌, arith, range_with_len, map-range_with_len_more, kinds, kind_of}
use Rattle.model_types.proofs.given_heads.GivenHeads.kinds.Goals as goal

pub loop-cell-preserved : goal.loop-cell-preserved
loop-cell-preserved c =
    let f = kind_of c.args.model.now c.args.self.now.period in
    c.in_ok-push.ensures.items ∙ (λ i. c.loop-cell.invariant i ++ c.kind.ensures i ∷ []) ∙ sym (map-range_with_len_more f 0 c.loop-cell.cell c.loop-cell.cell (omega arith))

pub returns : goal.returns
unfolding kinds
returns c =
    let f = kind_of c.args.model.now c.args.self.now.period in
    c.loop-cell.invariant ∙ ap (λ n. map f (range_with_len 0 n)) (omega (arith, c.loop-cell-test.false, c.loop-cell.auto.cell-end, c.cell_count-cell-end.ensures.count))
