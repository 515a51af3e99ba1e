use Rattle.problem_builder.proofs.Common.{no_bound, IsKept}
use Rattle.problem_builder.proofs.CellFits.{none_filled, next_filled}
use Rattle.problem_builder.proofs.given.kept_heads.Goals as goal

pub loop-cell-init : goal.loop-cell-init
loop-cell-init c = none_filled (IsKept c.args.model.now c.args.given.now.period) no_bound _ c.new-bounds.ensures.items

pub loop-cell-preserved : goal.loop-cell-preserved
loop-cell-preserved c = next_filled (IsKept c.args.model.now c.args.given.now.period) no_bound c.loop-cell.cell c.loop-cell.bounds.items _ _
    c.in_ok-push.ensures.items c.kept_pair_at.ensures c.loop-cell.invariant
