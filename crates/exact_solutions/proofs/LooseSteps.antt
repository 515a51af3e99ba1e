-- Steps with cells that nothing holds: heads one lower over these cells are another solution, where their deep flows sum to at most 0 or no river or drain of them conducts.
use Rattle.exact_solutions.proofs.Common.{step_common, ◌≡◌, ◌*◌, ◌<◌, ◌∙◌, ◌+ℤ◌, ◌-ℤ◌, ◌*ℤ◌, ◌≤ℤ◌, [], ◌∷◌, ℕ, refl, sym, ap, arith, ℤ, pos, neg_ℤ, List, length, All, Bool, true, false, cond, mul-pos}
use Rattle.exact_solutions.proofs.Common.{int_max, AllZip, zero-*ℤ, ints, clamps, Same, total, total_mono, mul_assoc, mul_mono, sum_below, sum_inside, deep_flow, AreLinked, share, SolvesStep}
use Rattle.exact_solutions.proofs.Common.{ExactCell, cell_at, no_cell, IsMutual, whole_solves, mutual_whole, FixedOver, RiverOver, DrainOver, EvapOver, CellOver, IsOver-none, sub_mul, WholeEntry}
use Rattle.exact_solutions.proofs.Common.{WholeCell, whole_at, no_whole, whole_link, whole_fixed, whole_river, whole_drain, whole_evap, whole_balance, whole_deep_river, whole_full, whole_deep}
use Rattle.exact_solutions.proofs.Common.{whole_step, AllZip-at, AllZip-length, All-zip, le_anti, deep_over, HasNoKnownHead, DrainedHaveAnother, AfloatHaveAnother, closed_cancel, le-trans}
use Rattle.exact_solutions.proofs.Common.{sum_below-tight, heads_over, whole_falls, *ℤ-zero, loss_falls, none_shared, sum_inside-add, total-none, sum_inside-zero, same_length, cell_over, closed_whole}
use Rattle.cell_balance.proofs.Enclosing.{over_le, IsOver-inside}
use Rattle.exact_solutions.proofs.WholeSolutions.{without_links, lowered, balance-links, lowered_balances, whole_balances_solve}
use Rattle.exact_solutions.proofs.HeldSteps.{same_crossed}

total-no_length : {X : Type 0} (f : X → ℤ) (xs : List X) → length xs ≡ 0 → total f xs ≡ pos 0
total-no_length f [] e = refl
total-no_length f (x ∷ xs) e = absurd (omega (arith, e))

nothing_times : (c : ℕ) (z : ℤ) → c ≡ 0 → pos c *ℤ z ≡ pos 0
nothing_times c z e = rw (e, zero-*ℤ z) refl

-- a cell's flows but for its links are at most its deep flow, where no known head conducts and nothing evaporates
flows_at_most_deep : (u : WholeCell) (v : ℤ) (h : ℕ → ℤ) → All (λ x. x.c ≡ 0) u.fixed → length u.evaps ≡ 0 → whole_balance (without_links u) v h ≤ℤ whole_deep u
flows_at_most_deep u v h fixed evaps =
    omega (
      arith,
      ints,
      total-none (λ x. x.c ≡ 0) (whole_fixed v) u.fixed (λ x e. nothing_times x.c (x.top -ℤ v) e) fixed,
      total-no_length (whole_evap v) u.evaps evaps,
      total-no_length whole_full u.evaps evaps,
      total_mono (whole_river v) whole_deep_river u.rivers (λ x. mul_mono x.c _ _ (omega (arith, ints, clamps))),
      drains u.drains,
    )
  where
    drain : (x : WholeEntry) → whole_drain v x ≤ℤ pos 0
    drain x = rw *ℤ-zero at (loss_falls x.c (pos 0) (int_max (v -ℤ x.foot) (pos 0)) (omega (arith, ints, clamps)))

    drains : (xs : List WholeEntry) → total (whole_drain v) xs ≤ℤ pos 0
    drains [] = omega (arith, ints)
    drains (x ∷ xs) = omega (arith, ints, drain x, drains xs)

-- and are its constant flows, where no river or drain conducts either
flows_constant : (u : WholeCell) (v : ℤ) (h : ℕ → ℤ) → All (λ x. x.c ≡ 0) u.fixed → All (λ x. x.c ≡ 0) u.rivers → All (λ x. x.c ≡ 0) u.drains → length u.evaps ≡
    0 → whole_balance (without_links u) v h ≡ total (λ q. q) u.flows
flows_constant u v h fixed rivers drains evaps =
    omega (
      arith,
      ints,
      total-none (λ x. x.c ≡ 0) (whole_fixed v) u.fixed (λ x e. nothing_times x.c (x.top -ℤ v) e) fixed,
      total-none (λ x. x.c ≡ 0) (whole_river v) u.rivers (λ x e. nothing_times x.c (x.top -ℤ int_max v x.foot) e) rivers,
      total-none (λ x. x.c ≡ 0) (whole_drain v) u.drains (λ x e. ap neg_ℤ (nothing_times x.c (int_max (v -ℤ x.foot) (pos 0)) e)) drains,
      total-no_length (whole_evap v) u.evaps evaps,
    )

module _ (e : List ExactCell) (inside : ℕ → Bool) (linked : AreLinked e) (loose : HasNoKnownHead e inside) (k m : ℕ) (w : List WholeCell) (over : AllZip (CellOver k m) e w) where
  no_fixed : (c : ℕ) → c < length e → inside c ≡ true → All (λ x. x.c ≡ 0) (whole_at w c).fixed
  no_fixed c i t = All-zip (FixedOver k m) (λ x. x.conductance.num ≡ 0) (λ x. x.c ≡ 0) (λ x y r h. none_shared k y.c x.conductance h r.c) (cell_at e c).fixed
      (whole_at w c).fixed (cell_over k m e w over c i).fixed (loose.fixed c i t)

  no_evaps : (c : ℕ) → c < length e → inside c ≡ true → length (whole_at w c).evaps ≡ 0
  no_evaps c i t = sym (AllZip-length (EvapOver k m) (cell_at e c).evaps (whole_at w c).evaps (cell_over k m e w over c i).evaps) ∙ ap length (loose.evaps c i t)

  module _ (Y : ℕ → ℤ) (zeros : (c : ℕ) → c < length w → whole_balance (whole_at w c) (Y c) Y ≡ pos 0) where
    -- where the deep flows sum to at most 0, each cell of the set gets its deep flow
    module _ (both : IsMutual w) (most : sum_inside (length w) inside (λ c. whole_deep (whole_at w c)) ≤ℤ pos 0) where
      deep_reached : (c : ℕ) → c < length w → inside c ≡ true → whole_deep (whole_at w c) ≤ℤ whole_balance (without_links (whole_at w c)) (Y c) Y
      deep_reached c i t =
          omega (
            arith,
            ints,
            balance-links (whole_at w c) (Y c) Y,
            (rw t at (sum_below-tight (length w) (λ c. cond (inside c) (whole_balance (whole_at w c) (Y c) Y) (pos 0)) (λ c.
                cond (inside c) (total (whole_link Y (Y c)) (whole_at w c).links +ℤ whole_deep (whole_at w c)) (pos 0)) (λ c i.
                less c i (inside c) refl) sums c i)),
          )
        where
          less : (c : ℕ) → c < length w → (s : Bool) → inside c ≡ s →
              cond s (whole_balance (whole_at w c) (Y c) Y) (pos 0) ≤ℤ cond s (total (whole_link Y (Y c)) (whole_at w c).links +ℤ whole_deep (whole_at w c))
              (pos 0)
          less c i true t =
              let here : c < length e = omega (arith, i, same_length k m e w over) in
              omega (arith, ints, balance-links (whole_at w c) (Y c) Y, flows_at_most_deep (whole_at w c) (Y c) Y (no_fixed c here t) (no_evaps c here t))
          less c i false t = omega (arith, ints)

          sums : sum_below (length w) (λ c. cond (inside c) (total (whole_link Y (Y c)) (whole_at w c).links +ℤ whole_deep (whole_at w c)) (pos 0)) ≤ℤ sum_below
              (length w) (λ c. cond (inside c) (whole_balance (whole_at w c) (Y c) Y) (pos 0))
          sums =
              omega (
                arith,
                ints,
                sum_inside-add (length w) inside (λ c. total (whole_link Y (Y c)) (whole_at w c).links) (λ c. whole_deep (whole_at w c)),
                closed_cancel w inside Y both (closed_whole k m e w over inside loose.closed),
                sum_inside-zero (length w) inside (λ c. whole_balance (whole_at w c) (Y c) Y) zeros,
              )

      pub drained_stays : (c : ℕ) → c < length e → inside c ≡ true → whole_balance (without_links (whole_at w c)) (Y c -ℤ pos 1) Y ≡ whole_balance (without_links (whole_at w c)) (Y c) Y
      drained_stays c i t =
          le_anti _ _
          (le-trans _ _ _ (flows_at_most_deep (whole_at w c) (Y c -ℤ pos 1) Y (no_fixed c i t) (no_evaps c i t)) (deep_reached c (omega (arith, i, same_length k m e w over)) t))
          (whole_falls (without_links (whole_at w c)) (Y c -ℤ pos 1) (Y c) Y (omega (arith, ints)))

-- heads one lower over the set, as another solution
abbrev AnotherSolution : List ExactCell → ℕ → (ℕ → ℤ) → Type 0
AnotherSolution e d X = (k : ℕ) × (Z : ℕ → ℤ) × (0 < k) × SolvesStep e k Z × (c : ℕ) × (c < length e) × (Same (share d (X c)) (share k (Z c)) → ⊥)

lowered_solution : (e : List ExactCell) (inside : ℕ → Bool) → AreLinked e → HasNoKnownHead e inside → (n d : ℕ) (X : ℕ → ℤ) → 0 < n → 0 < d →
    (w : List WholeCell) → AllZip (CellOver (n * 1) (n * d)) e w →
    ((c : ℕ) → c < length w → whole_balance (whole_at w c) (X c *ℤ pos n) (λ k. X k *ℤ pos n) ≡ pos 0) →
    ((c : ℕ) → c < length e → inside c ≡ true → whole_balance (without_links (whole_at w c)) (X c *ℤ pos n -ℤ pos 1) (λ k. X k *ℤ pos n) ≡
    whole_balance (without_links (whole_at w c)) (X c *ℤ pos n) (λ k. X k *ℤ pos n)) →
    AnotherSolution e d X
lowered_solution e inside linked loose n d X some_n some_d w over zeros stays =
    let (c, here, t) = loose.member in
    let some = mul-pos some_n some_d in (
      n * d,
      lowered inside (λ k. X k *ℤ pos n),
      some,
      whole_balances_solve (n * 1) (n * d) e w (lowered inside (λ k. X k *ℤ pos n)) (omega (arith, some_n)) some over
          (lowered_balances e inside linked loose.closed (n * 1) (n * d) w over (λ k. X k *ℤ pos n) stays zeros),
      c,
      here,
      (λ same. differ (X c) n d some_d (inside c) t (same_crossed d (n * d) (X c) _ some_d some same)),
    )
  where
    differ : (x : ℤ) (n d : ℕ) → 0 < d → (s : Bool) → s ≡ true → x *ℤ pos (n * d) ≡ (x *ℤ pos n -ℤ cond s (pos 1) (pos 0)) *ℤ pos d → ⊥
    differ x n d some s t e = omega (arith, ints, mul_assoc x (pos n) (pos d) ∙ (rw t at e) ∙ sub_mul (x *ℤ pos n) (pos 1) (pos d))

pub drained_have_another : DrainedHaveAnother
drained_have_another e inside linked loose most d X some solves =
    let (n, some_n, common) = step_common e in
    let (w, over) = whole_step n 1 d e common in
    let zeros = whole_solves (n * 1) (n * d) e w d X (λ k. X k *ℤ pos n) over solves (λ c. heads_over n d some (X c)) in
    let same = AllZip-length (CellOver (n * 1) (n * d)) e w over in
    let deep = over_le (n * 1 * (n * d)) _ _ _ _
    (IsOver-inside (n * 1 * (n * d)) (length e) inside (λ c. deep_flow (cell_at e c)) (λ c. whole_deep (whole_at w c)) (λ c i.
    deep_over (n * 1) (n * d) (cell_at e c) (whole_at w c) (AllZip-at (CellOver (n * 1) (n * d)) e w c no_cell no_whole over i)))
    (IsOver-none (n * 1 * (n * d))) most in
    lowered_solution e inside linked loose n d X some_n some w over zeros (drained_stays e inside linked loose (n * 1) (n * d) w over (λ k. X k *ℤ pos n) zeros
    (mutual_whole (n * 1) (n * d) e w linked over) (rw same at deep))

pub afloat_have_another : AfloatHaveAnother
afloat_have_another e inside linked afloat d X some solves =
    let (n, some_n, common) = step_common e in
    let (w, over) = whole_step n 1 d e common in
    let zeros = whole_solves (n * 1) (n * d) e w d X (λ k. X k *ℤ pos n) over solves (λ c. heads_over n d some (X c)) in
    lowered_solution e inside linked afloat.loose n d X some_n some w over zeros (λ c i t.
    constant n w over c i t (X c *ℤ pos n -ℤ pos 1) (λ k. X k *ℤ pos n) ∙ sym (constant n w over c i t (X c *ℤ pos n) (λ k. X k *ℤ pos n)))
  where
    constant : (n : ℕ) (w : List WholeCell) (over : AllZip (CellOver (n * 1) (n * d)) e w) (c : ℕ) → c < length e → inside c ≡ true → (v : ℤ) (h : ℕ → ℤ) →
        whole_balance (without_links (whole_at w c)) v h ≡ total (λ q. q) (whole_at w c).flows
    constant n w over c i t v h =
        let cell = AllZip-at (CellOver (n * 1) (n * d)) e w c no_cell no_whole over i in
        flows_constant (whole_at w c) v h (no_fixed e inside linked afloat.loose (n * 1) (n * d) w over c i t)
        (All-zip (RiverOver (n * 1) (n * d)) (λ x. x.conductance.num ≡ 0) (λ x. x.c ≡ 0) (λ x y r h. none_shared (n * 1) y.c x.conductance h r.c)
        (cell_at e c).rivers (whole_at w c).rivers cell.rivers (afloat.rivers c i t))
        (All-zip (DrainOver (n * 1) (n * d)) (λ x. x.conductance.num ≡ 0) (λ x. x.c ≡ 0) (λ x y r h. none_shared (n * 1) y.c x.conductance h r.c)
        (cell_at e c).drains (whole_at w c).drains cell.drains (afloat.drains c i t))
        (no_evaps e inside linked afloat.loose (n * 1) (n * d) w over c i t)
