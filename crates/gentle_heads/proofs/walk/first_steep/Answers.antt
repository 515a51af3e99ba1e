use Rattle.gentle_heads.proofs.Common.{◌≡◌, ℕ, inl, inr, true, false, sym, subst, arith, ◌∙◌, cases_Bool, cases_eq, false≢true, is_active, IsGentleAt}
use Rattle.gentle_heads.proofs.walk.first_steep.Goals as goal

pub returns-then-not-passes : goal.returns-then-not-passes
returns-then-not-passes c =
    let m = c.args.model.now in
    let cell = c.loop-cell.cell in
    let f : c.passes.result ≡ false = grind arith in
    elim (cases_Bool (is_active m cell)) [
      | inl a ↦ record {
        active = record { within = omega (arith, c.cell_count-cell-end.ensures.count, c.loop-cell-test.true); active = a };
        steep = (λ g. false≢true (sym f ∙ c.passes.ensures.1 (λ _. g)));
        before = c.loop-cell.invariant;
      }
      | inr none ↦ absurd (false≢true (sym f ∙ c.passes.ensures.1 (λ a. absurd (false≢true (sym none ∙ a)))))
    ]

pub loop-cell-preserved : goal.loop-cell-preserved
loop-cell-preserved c =
    let m = c.args.model.now in
    let t : c.passes.result ≡ true = grind arith in
    λ b lt a. elim (cases_eq b c.loop-cell.cell) [
      | inl same ↦ subst (λ (x : ℕ). is_active m x ≡ true → IsGentleAt m c.args.layers.now c.args.period.now.period c.args.heads.now x) (sym same) (c.passes.ensures.0 t) a
      | inr other ↦ c.loop-cell.invariant b (omega (arith, lt, other)) a
    ]

pub returns : goal.returns
returns c = λ x active. c.loop-cell.invariant x (omega (arith, active.within, c.cell_count-cell-end.ensures.count, c.loop-cell-test.false)) active.active
