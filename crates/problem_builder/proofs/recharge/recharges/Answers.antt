use Rattle.problem_builder.proofs.Common.{None, IsRecharged, arith}
use Rattle.problem_builder.proofs.CellFits.{none_filled, next_filled}
use Rattle.problem_builder.proofs.recharge.recharges.Goals as goal

pub loop-cell-init : goal.loop-cell-init
loop-cell-init c = none_filled (IsRecharged c.args.model.now c.args.s c.args.number) None _ c.none-pairs.ensures

pub push-requires : goal.push-requires
push-requires c = record { few = omega (arith, c.loop-cell.invariant.count, c.loop-cell-test.true, c.cell_count-count.ensures.few) }

pub loop-cell-preserved : goal.loop-cell-preserved
loop-cell-preserved c = next_filled (IsRecharged c.args.model.now c.args.s c.args.number) None c.loop-cell.cell c.loop-cell.pairs _ _ c.in_ok-push.ensures c.recharge_of.ensures c.loop-cell.invariant
