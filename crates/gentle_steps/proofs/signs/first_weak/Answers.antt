use Rattle.gentle_steps.proofs.Common.{below_more, ℕ, arith, Side, HasSignAt}
use Rattle.gentle_steps.proofs.signs.first_weak.Goals as goal

pub returns-in-Some : goal.returns-in-Some
returns-in-Some c = record {
  first = record {
    within = omega (arith, c.loop-index-test.true);
    fails = (λ h. c.in-Some.ensures.0 (h c.in-Some.side));
    before = c.loop-index.invariant;
  };
  weak = c.in-Some.ensures;
}

pub loop-index-preserved : goal.loop-index-preserved
loop-index-preserved c =
    let x = c.args.posed.now in
    below_more (λ (k : ℕ). (side : Side) → HasSignAt c.args.model.now c.args.layers.now c.args.tables.now.digits c.args.at c.args.old.now c.args.listed.now x.low x.high k side)
    _ c.loop-index.invariant c.in_default.ensures
