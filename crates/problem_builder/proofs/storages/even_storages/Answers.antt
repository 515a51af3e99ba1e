use Rattle.problem_builder.proofs.Common.{arith, cell_count, HasEvenStorage, no_pair}
use Rattle.problem_builder.proofs.CellFits.{none_filled, next_filled, filled_to}
use Rattle.problem_builder.proofs.storages.even_storages.Goals as goal

pub loop-cell-init : goal.loop-cell-init
loop-cell-init c = none_filled (HasEvenStorage c.args.model.now c.args.tables.now.digits c.args.number) no_pair _ c.new-pairs.ensures.items

pub loop-cell-preserved : goal.loop-cell-preserved
loop-cell-preserved c = next_filled (HasEvenStorage c.args.model.now c.args.tables.now.digits c.args.number) no_pair c.loop-cell.cell c.loop-cell.pairs.items _
    _ c.in_ok-push.ensures.items c.even_storage.ensures c.loop-cell.invariant

pub returns : goal.returns
returns c = rw c.new.ensures (filled_to (HasEvenStorage c.args.model.now c.args.tables.now.digits c.args.number) no_pair _ (cell_count c.args.model.now.grid) _
    (omega (arith, c.cell_count-count.ensures.count)) c.loop-cell.invariant)
