use Rattle.problem_builder.specs.{no_span, IsBedBelow}
use Rattle.problem_builder.proofs.CellFits.{none_filled, next_filled}
use Rattle.problem_builder.proofs.tables.beds.Goals as goal

pub loop-cell-init : goal.loop-cell-init
loop-cell-init c = none_filled (IsBedBelow c.args.model.now) no_span _ c.new-spans.ensures.items

pub loop-cell-preserved : goal.loop-cell-preserved
loop-cell-preserved c = next_filled (IsBedBelow c.args.model.now) no_span c.loop-cell.cell c.loop-cell.spans.items _ _ c.in_ok-push.ensures.items c.bed_at.ensures c.loop-cell.invariant
