use Rattle.gentle_steps.proofs.Common.{below_more, ℕ, arith, Side, ReachesAt}
use Rattle.gentle_steps.proofs.constants.first_short.Goals as goal

pub returns-in-Some : goal.returns-in-Some
returns-in-Some c = record {
  first = record {
    within = omega (arith, c.cell_count-cell-end.ensures.count, c.loop-cell-test.true);
    fails = (λ h. c.in-Some.ensures.0 (h c.in-Some.side));
    before = c.loop-cell.invariant;
  };
  short = c.in-Some.ensures;
}

pub loop-cell-preserved : goal.loop-cell-preserved
loop-cell-preserved c =
    below_more (λ (b : ℕ). (side : Side) → ReachesAt c.args.model.now c.args.at c.args.listed.now b side) _ c.loop-cell.invariant c.in_default.ensures

pub returns : goal.returns
returns c = λ d lt. c.loop-cell.invariant d (omega (arith, lt, c.cell_count-cell-end.ensures.count, c.loop-cell-test.false))
