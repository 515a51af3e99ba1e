use Rattle.problem_builder.proofs.Common.{◌+◌, ◌∙◌, ap, sym, arith, IsIndex}
use Rattle.problem_builder.proofs.{CellFits.none_filled, CellFits.next_filled, Indexing.first_index, Indexing.index_more, Indexing.index_same, Indexing.index_few}
use Rattle.problem_builder.proofs.index.indices.Goals.{then-is_variable, else-is_variable}
use Rattle.problem_builder.proofs.index.indices.Goals as goal

pub loop-cell-init : goal.loop-cell-init
loop-cell-init c = record {
  filled = none_filled (IsIndex c.args.model.now c.args.given.now.period) 0 _ c.new-indices.ensures.items;
  index =
      sym (first_index c.args.model.now c.args.given.now.period);
}

pub overflow_add-index : goal.overflow_add-index
overflow_add-index c = omega (arith, c.loop-cell.invariant.index, index_few c.args.model.now c.args.given.now.period c.loop-cell.cell, c.loop-cell-test.true, c.cell_count-count.ensures.few)

pub loop-cell-preserved : goal.loop-cell-preserved
loop-cell-preserved c = elim c.if-is_variable.branch [
  | then-is_variable w ↦ rw w.index-is record {
    filled = next_filled (IsIndex c.args.model.now c.args.given.now.period) 0 c.loop-cell.cell c.loop-cell.indices.items _ c.loop-cell.index
        c.in_ok-push.ensures.items c.loop-cell.invariant.index c.loop-cell.invariant.filled;
    index = ap (λ k. k + 1) c.loop-cell.invariant.index ∙ sym (index_more c.args.model.now c.args.given.now.period c.loop-cell.cell (sym c.is_variable.ensures ∙ w.if-is_variable.true));
  }
  | else-is_variable w ↦ rw w.index-is record {
    filled = next_filled (IsIndex c.args.model.now c.args.given.now.period) 0 c.loop-cell.cell c.loop-cell.indices.items _ c.loop-cell.index
        c.in_ok-push.ensures.items c.loop-cell.invariant.index c.loop-cell.invariant.filled;
    index = c.loop-cell.invariant.index ∙ sym (index_same c.args.model.now c.args.given.now.period c.loop-cell.cell (sym c.is_variable.ensures ∙ w.if-is_variable.false));
  }
]
