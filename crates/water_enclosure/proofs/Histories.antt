-- Step by step: what lies between the listed heads at one step gives the order of the old heads at the next.
use Rattle.water_enclosure.proofs.Common.{refl, ◌≡◌, ℕ, ◌<◌, List, [], ◌∷◌, All, true, ℤ, inl, inr, sym, ◌∙◌, subst, arith, cases_Bool, ints, All-from_get_or, All-get_or, not, ◌&&◌, ◌^◌, below_over}
use Rattle.water_enclosure.proofs.Common.{over_le, IsBelow, share, Fraction, Ratio, as_fraction, opposite, AtMost, FlowModel, TimeStep, IsModel, cell_count, index_of, is_active, is_constant}
use Rattle.water_enclosure.proofs.Common.{is_variable, start_head, variable_cells, ConvertibleLayers, GainsAtLeast, HasSignsAt, HasSignsFrom, IsWithin, LieInPairs, LiesInPair, ListedPair}
use Rattle.water_enclosure.proofs.Common.{LosesAtLeast, NearlySolvesAt, NearlySolvesFrom, heads_at, listed_heads, variable_cell, water_balance, AtMost-of, among, common_denominator_exists, FlowsLieAt}
use Rattle.water_enclosure.proofs.Common.{FlowsLieFrom, OwnFlowsAreAtMost, SignsEncloseFlows, SignsEncloseHistories, below_then_at_most, less_is_below}
use Rattle.model_types.specs.{times}
use Rattle.water_enclosure.proofs.{Cells.variable_active, Linked.index_within, Linked.index_names_cell, Linked.variable_at, Order.greater_balances_lie_lower, Order.known_at, Order.own_flows_at_most}
use Rattle.water_enclosure.proofs.{Order.variable_at_head}

then_below : (f u g : Fraction) → AtMost f u → IsBelow u g → IsBelow f g
then_below f u g le less =
    let (M, some, at) = common_denominator_exists 3 (among (f ∷ u ∷ g ∷ [])) in
    let (a, oa) = at 0 (omega arith) in
    let (b, ob) = at 1 (omega arith) in
    let (c, oc) = at 2 (omega arith) in
    less_is_below M f g a c oa oc (omega (arith, ints, over_le M f u a b oa ob le, below_over M u g b c some ob oc less))

module _ (m : FlowModel) (w : ConvertibleLayers) (valid : IsModel m) where
  -- facts of each variable cell
  each : (at : TimeStep) (P : ℕ → Type 0) → ((c : ℕ) → c < cell_count m.grid → is_variable m at.period c ≡ true → P c) → All P (variable_cells m at.period)
  each at P holds = All-from_get_or P (variable_cells m at.period) 0 (λ i lt. holds (variable_cell m at.period i) (variable_at m at valid.grid.size i lt).within
      (variable_at m at valid.grid.size i lt).passes)

  of_each : (at : TimeStep) (P : ℕ → Type 0) → All P (variable_cells m at.period) → (c : ℕ) → c < cell_count m.grid → is_variable m at.period c ≡ true → P c
  of_each at P all c lt v = subst P (index_names_cell m at valid.grid.size c v lt) (All-get_or P (variable_cells m at.period) (index_of m at.period c) 0 (index_within m at valid.grid.size c v lt) all)

  -- heads in order in variable cells are so in each active cell
  abbrev AreInOrder : (ℕ → Fraction) → (ℕ → Fraction) → Type 0
  AreInOrder f g = (c : ℕ) → c < cell_count m.grid → is_active m c ≡ true → AtMost (f c) (g c)

  in_order : (at : TimeStep) (d e : ℕ) (X Z : ℕ → ℤ) → All (λ c. AtMost (share d (X c)) (share e (Z c))) (variable_cells m at.period) → AreInOrder (heads_at m at d X) (heads_at m at e Z)
  in_order at d e X Z all c lt active =
      elim (cases_Bool (is_variable m at.period c)) [
        | inl v ↦ subst (λ (f : Fraction). AtMost f (heads_at m at e Z c)) (sym (variable_at_head m at d X c v))
            (subst (λ (f : Fraction). AtMost (share d (X c)) f) (sym (variable_at_head m at e Z c v))
            (of_each at (λ c. AtMost (share d (X c)) (share e (Z c))) all c lt v))
        | inr k ↦
            let constant : is_constant m at.period c ≡ true = λ j. active j && not (k j) in
            AtMost-of (heads_at m at d X c) (heads_at m at e Z c) (known_at m at d X c constant ∙ sym (known_at m at e Z c constant))
      ]

  module _ (unit : Ratio) (d : ℕ) where
    module _ (at : TimeStep) (old_low old old_high : ℕ → Fraction) (pair : ListedPair) (X : ℕ → ℤ) (signs : HasSignsAt unit m w at old_low old_high pair) (near : NearlySolvesAt unit m w at old d X)
        (above_low : AreInOrder old_low old) (below_high : AreInOrder old old_high) where
      abbrev at_X : ℕ → Fraction
      at_X = water_balance m w at old (heads_at m at d X)

      abbrev at_low : ℕ → Fraction
      at_low = water_balance m w at old_low (listed_heads m at pair.low)

      abbrev at_high : ℕ → Fraction
      at_high = water_balance m w at old_high (listed_heads m at pair.high)

      over_low : All (λ c. AtMost (share (10 ^ 9) (pair.low c)) (share d (X c))) (variable_cells m at.period)
      over_low = greater_balances_lie_lower m w at old_low old (10 ^ 9) d pair.low X valid signs.low_gentle near.gentle
          (each at (λ c. AtMost (old_low c) (old c)) (λ c lt v. above_low c lt (variable_active m at.period c v)))
          (each at (λ c. IsBelow (at_X c) (at_low c)) (λ c lt v.
          below_then_at_most (at_X c) (as_fraction unit) (at_low c) (of_each at (λ c. IsWithin unit (at_X c)) near.balances c lt v).0
          (of_each at (λ c. GainsAtLeast unit (at_low c)) signs.low c lt v)))

      under_high : All (λ c. AtMost (share d (X c)) (share (10 ^ 9) (pair.high c))) (variable_cells m at.period)
      under_high = greater_balances_lie_lower m w at old old_high d (10 ^ 9) X pair.high valid near.gentle signs.high_gentle
          (each at (λ c. AtMost (old c) (old_high c)) (λ c lt v. below_high c lt (variable_active m at.period c v)))
          (each at (λ c. IsBelow (at_high c) (at_X c)) (λ c lt v.
          then_below (at_high c) (opposite (as_fraction unit)) (at_X c) (of_each at (λ c. LosesAtLeast unit (at_high c)) signs.high c lt v)
          (of_each at (λ c. IsWithin unit (at_X c)) near.balances c lt v).1))

      between : All (LiesInPair d X pair) (variable_cells m at.period)
      between = each at (LiesInPair d X pair) (λ c lt v. record {
        low = of_each at (λ c. AtMost (share (10 ^ 9) (pair.low c)) (share d (X c))) over_low c lt v;
        high = of_each at (λ c. AtMost (share d (X c)) (share (10 ^ 9) (pair.high c))) under_high c lt v;
      })

      -- flows at the upper heads with the old lower ones are least, those at the lower heads with the old upper ones greatest
      flows_between : All (FlowsLieAt m w at old_low old old_high d X pair) (variable_cells m at.period)
      flows_between =
          let low_order = in_order at (10 ^ 9) d pair.low X over_low in
          let high_order = in_order at d (10 ^ 9) X pair.high under_high in
          let least = own_flows_at_most m w at valid old_low old (listed_heads m at pair.high) (heads_at m at d X) signs.high_gentle near.gentle (known_at m at (10 ^ 9) pair.high) (known_at m at d X)
          (each at (λ c. AtMost (old_low c) (old c)) (λ c lt v. above_low c lt (variable_active m at.period c v)))
          (each at (λ c. AtMost (heads_at m at d X c) (listed_heads m at pair.high c)) (λ c lt v. high_order c lt (variable_active m at.period c v))) in
          let most = own_flows_at_most m w at valid old old_high (heads_at m at d X) (listed_heads m at pair.low) near.gentle signs.low_gentle (known_at m at d X) (known_at m at (10 ^ 9) pair.low)
          (each at (λ c. AtMost (old c) (old_high c)) (λ c lt v. below_high c lt (variable_active m at.period c v)))
          (each at (λ c. AtMost (listed_heads m at pair.low c) (heads_at m at d X c)) (λ c lt v. low_order c lt (variable_active m at.period c v))) in
          each at (FlowsLieAt m w at old_low old old_high d X pair) (λ c lt v. record {
            least = of_each at (OwnFlowsAreAtMost m w at old_low (listed_heads m at pair.high) old (heads_at m at d X)) least c lt v;
            most = of_each at (OwnFlowsAreAtMost m w at old (heads_at m at d X) old_high (listed_heads m at pair.low)) most c lt v;
          })

    enclose_from : (steps : List TimeStep) (pairs : List ListedPair) (Xs : List (ℕ → ℤ)) (old_low old old_high : ℕ → Fraction) → AreInOrder old_low old → AreInOrder old old_high →
        HasSignsFrom unit m w old_low old_high steps pairs → NearlySolvesFrom unit m w d old steps Xs → LieInPairs m d steps Xs pairs
    enclose_from [] [] [] old_low old old_high low high signs near = tt
    enclose_from [] [] (X ∷ Xs) old_low old old_high low high signs near = absurd near
    enclose_from [] (pair ∷ pairs) Xs old_low old old_high low high signs near = absurd signs
    enclose_from (at ∷ steps) [] Xs old_low old old_high low high signs near = absurd signs
    enclose_from (at ∷ steps) (pair ∷ pairs) [] old_low old old_high low high signs near = absurd near
    enclose_from (at ∷ steps) (pair ∷ pairs) (X ∷ Xs) old_low old old_high low high signs near = (
      between at old_low old old_high pair X signs.0 near.0 low high,
      enclose_from steps pairs Xs (listed_heads m at pair.low) (heads_at m at d X) (listed_heads m at pair.high)
          (in_order at (10 ^ 9) d pair.low X (over_low at old_low old old_high pair X signs.0 near.0 low high))
          (in_order at d (10 ^ 9) X pair.high (under_high at old_low old old_high pair X signs.0 near.0 low high)) signs.1 near.1,
    )

    flows_from : (steps : List TimeStep) (pairs : List ListedPair) (Xs : List (ℕ → ℤ)) (old_low old old_high : ℕ → Fraction) → AreInOrder old_low old → AreInOrder old old_high →
        HasSignsFrom unit m w old_low old_high steps pairs → NearlySolvesFrom unit m w d old steps Xs → FlowsLieFrom m w d old_low old old_high steps Xs pairs
    flows_from [] [] [] old_low old old_high low high signs near = tt
    flows_from [] [] (X ∷ Xs) old_low old old_high low high signs near = absurd near
    flows_from [] (pair ∷ pairs) Xs old_low old old_high low high signs near = absurd signs
    flows_from (at ∷ steps) [] Xs old_low old old_high low high signs near = absurd signs
    flows_from (at ∷ steps) (pair ∷ pairs) [] old_low old old_high low high signs near = absurd near
    flows_from (at ∷ steps) (pair ∷ pairs) (X ∷ Xs) old_low old old_high low high signs near = (
      flows_between at old_low old old_high pair X signs.0 near.0 low high,
      flows_from steps pairs Xs (listed_heads m at pair.low) (heads_at m at d X) (listed_heads m at pair.high)
          (in_order at (10 ^ 9) d pair.low X (over_low at old_low old old_high pair X signs.0 near.0 low high))
          (in_order at d (10 ^ 9) X pair.high (under_high at old_low old old_high pair X signs.0 near.0 low high)) signs.1 near.1,
    )

pub signs_enclose_histories : SignsEncloseHistories
signs_enclose_histories unit m w pairs d Xs valid signs near =
    enclose_from m w valid unit d (times m) pairs Xs (start_head m) (start_head m) (start_head m) (λ c lt active.
    AtMost-of (start_head m c) (start_head m c) refl) (λ c lt active. AtMost-of (start_head m c) (start_head m c) refl) signs near.steps

pub signs_enclose_flows : SignsEncloseFlows
signs_enclose_flows unit m w pairs d Xs valid signs near =
    flows_from m w valid unit d (times m) pairs Xs (start_head m) (start_head m) (start_head m) (λ c lt active.
    AtMost-of (start_head m c) (start_head m c) refl) (λ c lt active. AtMost-of (start_head m c) (start_head m c) refl) signs near.steps
