use Rattle.gentle_steps.proofs.Common.{below_more, ◌≡◌, ℕ, ◌≤ℤ◌, true, false, sym, arith, ◌∙◌, false≢true, lower_at, upper_at}
use Rattle.gentle_steps.proofs.heads.first_crossed.Goals as goal

pub returns-then-not-is_ordered : goal.returns-then-not-is_ordered
returns-then-not-is_ordered c =
    let f : c.is_ordered.result ≡ false = grind arith in
    record {
      within = omega (arith, c.cell_count-cell-end.ensures.count, c.loop-cell-test.true);
      fails = (λ h. false≢true (sym f ∙ c.is_ordered.ensures.1 h));
      before = c.loop-cell.invariant;
    }

pub loop-cell-preserved : goal.loop-cell-preserved
loop-cell-preserved c =
    let t : c.is_ordered.result ≡ true = grind arith in
    let listed = c.args.listed.now in
    below_more (λ (b : ℕ). lower_at listed b ≤ℤ upper_at listed b) _ c.loop-cell.invariant (c.is_ordered.ensures.0 t)

pub returns : goal.returns
returns c = λ d lt. c.loop-cell.invariant d (omega (arith, lt, c.cell_count-cell-end.ensures.count, c.loop-cell-test.false))
