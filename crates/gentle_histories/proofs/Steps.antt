-- One step: between listed heads with the signs there are heads on a fine enough grid that nearly solve it, from any heads before it that lie between the listed
-- ones.
use Rattle.gentle_histories.proofs.Common.{share_is_over, ℕ, suc, ◌*◌, ◌<◌, ◌≤◌, inl, inr, ℤ, pos, ◌*ℤ◌, ◌≤ℤ◌, ◌<ℤ◌, All, sym, refl, subst, arith, mul-pos, cases_eq, by_lt_z, ints, ◌^◌, Fraction}
use Rattle.gentle_histories.proofs.Common.{Ratio, as_fraction, opposite, AtMost, AtMost-trans, neg_times, IsBelow, share, le_over, FlowModel, TimeStep, IsModel, cell_count, In, AtMost-of}
use Rattle.gentle_histories.proofs.Common.{below_then_at_most, ConvertibleLayers, GainsAtLeast, HasSignsAt, IsGentle, IsWithin, LiesInPair, ListedPair, LosesAtLeast, NearlySolvesAt, heads_at}
use Rattle.gentle_histories.proofs.Common.{listed_heads, water_balance, variable_active, known_at, AreAllGentle}
use Rattle.decimal_input.specs.{Fractions.den, Ratios.den as ratio_den}
use Rattle.gentle_histories.proofs.{Balances.balance_near, Balances.balance_order, Balances.balance_rate, Boxes.IsBox, Boxes.LieIn, Branches.IsCell, Near.IsNear, Near.near_order, Rounds.raised}
use Rattle.gentle_histories.proofs.{Rounds.raised_at, Rounds.raised_by, Rounds.raised_else, Rounds.rounds_end, Cells.AreInOrder, Cells.IsVariable, Cells.at_variable, Cells.by_cell, Cells.cells}
use Rattle.gentle_histories.proofs.{Cells.each_variable, Cells.of_each, Cells.of_member, Grids.finer, Grids.share_near, Grids.share_rises, Grids.still_above}

module _ (m : FlowModel) (w : ConvertibleLayers) (valid : IsModel m) (unit : Ratio) (units : 0 < unit.num) (at : TimeStep) (pair : ListedPair) (gentle : AreAllGentle m w at pair) where
  abbrev lows : ℕ → Fraction
  lows = listed_heads m at pair.low

  abbrev highs : ℕ → Fraction
  highs = listed_heads m at pair.high

  module _ (n : ℕ) (box : IsBox m w lows highs n) (old_low old old_high : ℕ → Fraction) (signs : HasSignsAt unit m w at old_low old_high pair)
      (above : AreInOrder m old_low old) (below : AreInOrder m old old_high) (e : ℕ) (some_e : 0 < e)
      (fine : (c : ℕ) → c < cell_count m.grid → balance_rate m w at valid lows highs n box c * ratio_den unit ≤ 10 ^ 9 * e) where
    abbrev d : ℕ
    d = 10 ^ 9 * e

    some : 0 < d
    some = mul-pos (omega arith) some_e

    abbrev heads : (ℕ → ℤ) → ℕ → Fraction
    heads X = heads_at m at d X

    abbrev gain : (ℕ → ℤ) → ℕ → Fraction
    gain X c = water_balance m w at old (heads X) c

    abbrev top : ℕ → ℤ
    top c = pair.high c *ℤ pos e

    -- between the listed heads, and no variable cell loses a unit or more
    record IsGood (X : ℕ → ℤ) : Type 0 where
      low : (c : ℕ) → IsVariable m valid at c → (pair.low c *ℤ pos e) ≤ℤ X c
      high : (c : ℕ) → IsVariable m valid at c → X c ≤ℤ top c
      gains : (c : ℕ) → IsVariable m valid at c → IsBelow (opposite (as_fraction unit)) (gain X c)

    at_least : (x : ℤ) (z : ℤ) → (z *ℤ pos e) ≤ℤ x → AtMost (share (10 ^ 9) z) (share d x)
    at_least x z le = le_over d _ _ _ _ some (finer e z) (share_is_over d x some) le

    at_most : (x : ℤ) (z : ℤ) → x ≤ℤ (z *ℤ pos e) → AtMost (share d x) (share (10 ^ 9) z)
    at_most x z le = le_over d _ _ _ _ some (share_is_over d x some) (finer e z) le

    module _ (X : ℕ → ℤ) (low : (c : ℕ) → IsVariable m valid at c → (pair.low c *ℤ pos e) ≤ℤ X c) (high : (c : ℕ) → IsVariable m valid at c → X c ≤ℤ top c) where
      within : All (LiesInPair d X pair) (cells m valid at)
      within = each_variable m valid at (LiesInPair d X pair) (λ c v. record { low = at_least (X c) (pair.low c) (low c v); high = at_most (X c) (pair.high c) (high c v) })

      gently : IsGentle m w at.period (heads X)
      gently = gentle d X some within

      inside : LieIn m w lows highs (heads X)
      inside = record {
        above = by_cell m valid at AtMost AtMost-of (10 ^ 9) d pair.low X (λ c v. at_least (X c) (pair.low c) (low c v));
        below = by_cell m valid at AtMost AtMost-of d (10 ^ 9) X pair.high (λ c v. at_most (X c) (pair.high c) (high c v));
      }

    -- a cell that gains a unit or more lies below its upper head
    calls_below : (X : ℕ → ℤ) (c : ℕ) → IsGood X → IsVariable m valid at c → AtMost (as_fraction unit) (gain X c) → X c <ℤ top c
    calls_below X c good v calls = by_lt_z (X c) (top c) (λ less. less) (λ back.
        let in_box = inside X good.low good.high in
        let cell : IsCell m c = record { within = v.within; active = variable_active m at.period c v.variable } in
        let order = balance_order m w at valid (heads X) highs c v.within v.variable (known_at m at d X) (known_at m at (10 ^ 9) pair.high) old old_high (gently X good.low good.high)
        signs.high_gentle (below c cell) (at_variable m valid at AtMost (10 ^ 9) d pair.high X c v (at_least (X c) (pair.high c) back)) in_box.below in
        absurd (crossed unit.num unit.less units (AtMost-trans calls (AtMost-trans order
        (of_each m valid at (λ c. LosesAtLeast unit (water_balance m w at old_high highs c)) signs.high c v)))))
      where
        crossed : (U v : ℕ) → 0 < U → AtMost (as_fraction (record { num = U; less = v })) (opposite (as_fraction (record { num = U; less = v }))) → ⊥
        crossed U v units h = omega (arith, ints, h.at_most, neg_times (pos U) (pos (suc v)), mul-pos units (let e : 0 < suc v = omega arith in e))

    -- raised there, the vector is still good
    raises : (X : ℕ → ℤ) (c : ℕ) → IsGood X → In (cells m valid at) c → AtMost (as_fraction unit) (gain X c) → IsGood (raised X c)
    raises X c good i calls =
        let here = of_member m valid at c i in
        let less = calls_below X c good here calls in
        let low' : (k : ℕ) → IsVariable m valid at k → (pair.low k *ℤ pos e) ≤ℤ raised X c k = λ k v. omega (arith, ints, good.low k v, (raised_by X c k).0) in
        let high' : (k : ℕ) → IsVariable m valid at k → raised X c k ≤ℤ top k = λ k v. elim (cases_eq k c) [
          | inl is ↦ subst (λ (j : ℕ). raised X c j ≤ℤ top j) (sym is) (omega (arith, ints, raised_at X c, less))
          | inr other ↦ omega (arith, ints, raised_else X c k other, good.high k v)
        ] in
        let rises = by_cell m valid at AtMost AtMost-of d d X (raised X c) (λ k v. share_rises d _ _ some (raised_by X c k).0) in
        let near = by_cell m valid at (IsNear d 1) (λ f g same. near_order d some 1 f g (AtMost-of f g same)) d d (raised X c) X (λ k v. share_near d _ _ some (raised_by X c k).1) in
        let here_cell : IsCell m c = record { within = here.within; active = variable_active m at.period c here.variable } in
        record {
          low = low';
          high = high';
          gains = λ k v. elim (cases_eq k c) [
            | inl is ↦ subst (λ (j : ℕ). IsBelow (opposite (as_fraction unit)) (gain (raised X c) j)) (sym is)
                (still_above unit d (balance_rate m w at valid lows highs n box c) _ _ units some (fine c here.within) calls
                (balance_near m w at valid (heads X) (heads (raised X c)) c here.within here.variable (known_at m at d X) (known_at m at d (raised X c)) lows highs n box d some old
                (inside X good.low good.high) (inside (raised X c) low' high') rises near))
            | inr other ↦
                let cell : IsCell m k = record { within = v.within; active = variable_active m at.period k v.variable } in
                below_then_at_most _ _ _ (good.gains k v) (balance_order m w at valid (heads X) (heads (raised X c)) k v.within v.variable (known_at m at d X)
                (known_at m at d (raised X c)) old old (gently X good.low good.high) (gently (raised X c) low' high') (AtMost-of _ _ refl)
                (at_variable m valid at AtMost d d (raised X c) X k v (share_rises d _ _ some (let e : raised X c k ≤ℤ X k = omega (arith, ints, raised_else X c k other) in e))) rises)
          ];
        }

    abbrev start : ℕ → ℤ
    start c = pair.low c *ℤ pos e

    -- the lower heads are good, if they lie below the upper ones
    start_good : ((c : ℕ) → IsVariable m valid at c → start c ≤ℤ top c) → IsGood start
    start_good order =
        let low' : (k : ℕ) → IsVariable m valid at k → start k ≤ℤ start k = λ k v. omega (arith, ints) in
        record {
          low = low';
          high = order;
          gains = λ c v.
              let cell : IsCell m c = record { within = v.within; active = variable_active m at.period c v.variable } in
              let up = by_cell m valid at AtMost AtMost-of (10 ^ 9) d pair.low start (λ k u. at_least (start k) (pair.low k) (omega (arith, ints))) in
              let kept = balance_order m w at valid lows (heads start) c v.within v.variable (known_at m at (10 ^ 9) pair.low) (known_at m at d start) old_low old signs.low_gentle
              (gently start low' order) (above c cell) (at_variable m valid at AtMost d (10 ^ 9) start pair.low c v (at_most (start c) (pair.low c) (omega (arith, ints)))) up in
              positive unit.num unit.less _ units (AtMost-trans (of_each m valid at (λ c. GainsAtLeast unit (water_balance m w at old_low lows c)) signs.low c v) kept);
        }
      where
        positive : (U v : ℕ) (f : Fraction) → 0 < U → AtMost (as_fraction (record { num = U; less = v })) f → IsBelow (opposite (as_fraction (record { num = U; less = v }))) f
        positive U v f units le =
            record { below = let h = le.at_most in omega (arith, ints, h, neg_times (pos U) (pos (den f)), mul-pos units (let e : 0 < den f = omega arith in e)) }

    pub record Solved : Type 0 where
      pub X : ℕ → ℤ
      pub solves : NearlySolvesAt unit m w at old d X
      pub lies : All (LiesInPair d X pair) (cells m valid at)

    pub solved : ((c : ℕ) → IsVariable m valid at c → start c ≤ℤ top c) → Solved
    solved order =
        let (Z, good, done) = rounds_end top (cells m valid at) IsGood (λ X c. IsBelow (gain X c) (as_fraction unit)) (λ X c. AtMost (as_fraction unit) (gain X c))
        (λ X c. by_lt_z ((gain X c).num *ℤ pos (ratio_den unit)) (pos unit.num *ℤ pos (den (gain X c))) (λ less. inl (record { below = less })) (λ le. inr (record { at_most = le })))
        (λ X c good i. good.high c (of_member m valid at c i)) raises start (start_good order) in
        record {
          X = Z;
          solves = record {
            gentle = gently Z good.low good.high;
            balances = each_variable m valid at (λ c. IsWithin unit (gain Z c)) (λ c v. (of_each m valid at (λ c. IsBelow (gain Z c) (as_fraction unit)) done c v, good.gains c v));
          };
          lies = within Z good.low good.high;
        }
