use Rattle.gentle_problem.proofs.Common.{no_pair, HasPairAt}
use Rattle.problem_builder.proofs.CellFits.{none_filled, next_filled}
use Rattle.gentle_problem.proofs.pairs.pairs_along.Goals as goal

pub loop-cell-init : goal.loop-cell-init
loop-cell-init c =
    none_filled (HasPairAt c.args.model.now c.args.layers.now c.args.heads.now c.args.s c.args.axis) no_pair _ c.new-pairs.ensures.items

pub loop-cell-preserved : goal.loop-cell-preserved
loop-cell-preserved c =
    next_filled (HasPairAt c.args.model.now c.args.layers.now c.args.heads.now c.args.s c.args.axis) no_pair c.loop-cell.cell c.loop-cell.pairs.items _ _
    c.in_ok-push.ensures.items c.pair_after.ensures c.loop-cell.invariant
