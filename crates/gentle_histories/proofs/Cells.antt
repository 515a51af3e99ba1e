-- The cells of a step: facts of variable cells, heads of active ones, and that listed heads with the signs don't cross.
use Rattle.gentle_histories.proofs.Common.{share_is_over, ◌≡◌, ℕ, suc, ◌<◌, inl, inr, true, ℤ, pos, neg_ℤ, ◌*ℤ◌, ◌≤ℤ◌, ◌<ℤ◌, All, List, sym, ◌∙◌, subst, arith, mul-pos, cases_Bool, ints}
use Rattle.gentle_histories.proofs.Common.{All-from_get_or, All-get_or, not, ◌&&◌, ◌^◌, Fraction, Ratio, as_fraction, opposite, AtMost, neg_times, IsBelow, share, over_le, FlowModel, TimeStep}
use Rattle.gentle_histories.proofs.Common.{IsModel, cell_count, index_of, is_constant, is_variable, variable_cells, In, In-All, AtMost-of, below_then_at_most, ConvertibleLayers, GainsAtLeast}
use Rattle.gentle_histories.proofs.Common.{HasSignsAt, LiesInPair, ListedPair, LosesAtLeast, heads_at, listed_heads, variable_cell, water_balance, variable_active, index_names_cell, index_within}
use Rattle.gentle_histories.proofs.Common.{variable_at, greater_balances_lie_lower, known_at, variable_at_head}
use Rattle.gentle_histories.proofs.Branches.{IsCell}

-- heads of one vector at or below those of the other in each active cell
abbrev pub AreInOrder : FlowModel → (ℕ → Fraction) → (ℕ → Fraction) → Type 0
AreInOrder m f g = (c : ℕ) → IsCell m c → AtMost (f c) (g c)

module _ (m : FlowModel) (valid : IsModel m) (at : TimeStep) where
  pub record IsVariable (c : ℕ) : Type 0 where
    pub within : c < cell_count m.grid
    pub variable : is_variable m at.period c ≡ true

  abbrev pub cells : List ℕ
  cells = variable_cells m at.period

  pub each_variable : (P : ℕ → Type 0) → ((c : ℕ) → IsVariable c → P c) → All P cells
  each_variable P holds = All-from_get_or P cells 0 (λ i lt. holds (variable_cell m at.period i)
      (record { within = (variable_at m at valid.grid.size i lt).within; variable = (variable_at m at valid.grid.size i lt).passes }))

  pub of_each : (P : ℕ → Type 0) → All P cells → (c : ℕ) → IsVariable c → P c
  of_each P all c v = subst P (index_names_cell m at valid.grid.size c v.variable v.within)
      (All-get_or P cells (index_of m at.period c) 0 (index_within m at valid.grid.size c v.variable v.within) all)

  pub of_member : (c : ℕ) → In cells c → IsVariable c
  of_member c i = In-All IsVariable cells c (each_variable IsVariable (λ k v. v)) i

  -- what holds of each fraction and itself, and of two vectors in variable cells, holds of their heads in each active cell
  pub by_cell : (P : Fraction → Fraction → Type 0) → ((f g : Fraction) → f ≡ g → P f g) → (d e : ℕ) (X Z : ℕ → ℤ) → ((c : ℕ) → IsVariable c → P (share d (X c)) (share e (Z c))) →
      (c : ℕ) → IsCell m c → P (heads_at m at d X c) (heads_at m at e Z c)
  by_cell P same d e X Z holds c here = elim (cases_Bool (is_variable m at.period c)) [
    | inl v ↦ subst (λ (f : Fraction). P f (heads_at m at e Z c)) (sym (variable_at_head m at d X c v))
        (subst (λ (f : Fraction). P (share d (X c)) f) (sym (variable_at_head m at e Z c v)) (holds c (record { within = here.within; variable = v })))
    | inr k ↦
        let constant : is_constant m at.period c ≡ true = λ j. here.active j && not (k j) in
        same _ _ (known_at m at d X c constant ∙ sym (known_at m at e Z c constant))
  ]

  -- heads of a variable cell
  pub at_variable : (P : Fraction → Fraction → Type 0) (d e : ℕ) (X Z : ℕ → ℤ) (c : ℕ) → IsVariable c → P (share d (X c)) (share e (Z c)) → P (heads_at m at d X c) (heads_at m at e Z c)
  at_variable P d e X Z c v holds = subst (λ (f : Fraction). P f (heads_at m at e Z c)) (sym (variable_at_head m at d X c v.variable))
      (subst (λ (f : Fraction). P (share d (X c)) f) (sym (variable_at_head m at e Z c v.variable)) holds)

  -- heads in pairs lie between the listed ones
  pub between : (d : ℕ) (X : ℕ → ℤ) (pair : ListedPair) → All (LiesInPair d X pair) cells →
      AreInOrder m (listed_heads m at pair.low) (heads_at m at d X) × AreInOrder m (heads_at m at d X) (listed_heads m at pair.high)
  between d X pair lies = (
    by_cell AtMost AtMost-of (10 ^ 9) d pair.low X (λ c v. (of_each (LiesInPair d X pair) lies c v).low),
    by_cell AtMost AtMost-of d (10 ^ 9) X pair.high (λ c v. (of_each (LiesInPair d X pair) lies c v).high),
  )

  -- listed heads with the signs don't cross
  pub signs_order : (w : ConvertibleLayers) (unit : Ratio) → 0 < unit.num → (pair : ListedPair) (old_low old_high : ℕ → Fraction) → AreInOrder m old_low old_high →
      HasSignsAt unit m w at old_low old_high pair →
      ((c : ℕ) → IsVariable c → pair.low c ≤ℤ pair.high c) × AreInOrder m (listed_heads m at pair.low) (listed_heads m at pair.high)
  signs_order w unit units pair old_low old_high order signs =
      let lies = greater_balances_lie_lower m w at old_low old_high (10 ^ 9) (10 ^ 9) pair.low pair.high valid signs.low_gentle signs.high_gentle
      (each_variable (λ c. AtMost (old_low c) (old_high c)) (λ c v. order c (record { within = v.within; active = variable_active m at.period c v.variable })))
      (each_variable (λ c. IsBelow (water_balance m w at old_high (listed_heads m at pair.high) c) (water_balance m w at old_low (listed_heads m at pair.low) c)) (λ c v.
      apart unit.num unit.less units (of_each (λ c. GainsAtLeast unit (water_balance m w at old_low (listed_heads m at pair.low) c)) signs.low c v)
      (of_each (λ c. LosesAtLeast unit (water_balance m w at old_high (listed_heads m at pair.high) c)) signs.high c v))) in
      let at_cell = of_each (λ c. AtMost (share (10 ^ 9) (pair.low c)) (share (10 ^ 9) (pair.high c))) lies in (
        λ c v. over_le (10 ^ 9) _ _ _ _ (share_is_over (10 ^ 9) (pair.low c) (omega arith)) (share_is_over (10 ^ 9) (pair.high c) (omega arith)) (at_cell c v),
        by_cell AtMost AtMost-of (10 ^ 9) (10 ^ 9) pair.low pair.high at_cell,
      )
    where
      signed : (U v : ℕ) (z : ℤ) (l : ℕ) → 0 < U → (z *ℤ pos (suc v)) ≤ℤ (neg_ℤ (pos U) *ℤ pos (suc l)) → (z *ℤ pos (suc v)) <ℤ (pos U *ℤ pos (suc l))
      signed U v z l units le = omega (arith, ints, le, neg_times (pos U) (pos (suc l)), mul-pos units (let e : 0 < suc l = omega arith in e))

      apart : (U v : ℕ) {f g : Fraction} → 0 < U → AtMost (as_fraction (record { num = U; less = v })) f → AtMost g (opposite (as_fraction (record { num = U; less = v }))) → IsBelow g f
      apart U v {f} {g} units gains loses = below_then_at_most g (as_fraction (record { num = U; less = v })) f (record { below = signed U v g.num g.less units loses.at_most }) gains
