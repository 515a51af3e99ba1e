use Rattle.certificate_check.proofs.Common.{arith, below_more, Low, High}
use Rattle.certificate_check.proofs.search.first_failing.Goals as goal

pub loop-cell-preserved : goal.loop-cell-preserved
loop-cell-preserved c = below_more _ _ c.loop-cell.invariant c.in_default.ensures

pub returns : goal.returns
returns c = record {
  low = λ d i. c.loop-cell.invariant d (omega (arith, i, c.loop-cell-test.false, c.len-cells.ensures.count)) Low;
  high = λ d i. c.loop-cell.invariant d (omega (arith, i, c.loop-cell-test.false, c.len-cells.ensures.count)) High;
}
