use Rattle.std.proofs.Common.{arith, below_more}
use Rattle.settle_driver.proofs.Phasing.{none_open}
use Rattle.settle_driver.proofs.open.first_open.Goals as goal

pub loop-cell-preserved : goal.loop-cell-preserved
loop-cell-preserved c = below_more _ _ c.loop-cell.invariant c.in_default.ensures

pub returns : goal.returns
returns c = none_open c.args.p.now c.args.words.now (λ side d i. c.loop-cell.invariant d (omega (arith, i, c.loop-cell-test.false, c.len-cells.ensures.count)) side)
