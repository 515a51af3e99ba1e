-- Step by step: one grid is fine enough for all steps, and the heads of a step lie between the listed ones before the next.
use Rattle.gentle_histories.proofs.Common.{ℕ, suc, ◌+◌, ◌*◌, ◌<◌, ◌≤◌, ℤ, pos, ◌*ℤ◌, ◌≤ℤ◌, List, [], ◌∷◌, refl, arith, mul-le-mul_right, ◌^◌, Fraction, Ratio, den, mul_mono_right, FlowModel, TimeStep}
use Rattle.gentle_histories.proofs.Common.{IsModel, cell_count, start_head, AtMost-of, ConvertibleLayers, HasSignsFrom, LieInPairs, ListedPair, NearlySolvesFrom, heads_at, listed_heads}
use Rattle.gentle_histories.proofs.Common.{AreAllGentleFrom, HistoriesExist, ints, AtMost, AtMost-trans, neg_times, as_fraction, opposite, All-In, In-All, GainsAtLeast, LosesAtLeast, HasSignsAt}
use Rattle.gentle_histories.proofs.Common.{water_balance, variable_cells}
use Rattle.decimal_input.specs.Ratios.{AtMost as RatioAtMost}
use Rattle.model_types.specs.{times}
use Rattle.gentle_histories.proofs.{Balances.balance_rate, Boxes.bound_exists, Boxes.box_exists, Cells.AreInOrder, Cells.between, Cells.signs_order, Steps.solved}

module _ (m : FlowModel) (w : ConvertibleLayers) (valid : IsModel m) (unit : Ratio) (units : 0 < unit.num) where
  -- On every grid of 10^9 e that is at least as fine as D, from heads between the listed ones before the steps, they are solved.
  abbrev HasOne : (ℕ → Fraction) → (ℕ → Fraction) → List TimeStep → List ListedPair → ℕ → Type 0
  HasOne low high steps pairs e = (old : ℕ → Fraction) → AreInOrder m low old → AreInOrder m old high →
      (Xs : List (ℕ → ℤ)) × NearlySolvesFrom unit m w (10 ^ 9 * e) old steps Xs × LieInPairs m (10 ^ 9 * e) steps Xs pairs

  abbrev AreSolvable : (ℕ → Fraction) → (ℕ → Fraction) → List TimeStep → List ListedPair → Type 0
  AreSolvable low high steps pairs = (D : ℕ) × ((e : ℕ) → 0 < e → D ≤ 10 ^ 9 * e → HasOne low high steps pairs e)

  steps_are : (steps : List TimeStep) (pairs : List ListedPair) (low high : ℕ → Fraction) → AreInOrder m low high → HasSignsFrom unit m w low high steps pairs →
      AreAllGentleFrom m w steps pairs → AreSolvable low high steps pairs
  steps_are [] [] low high order signs gentle = (0, λ e some fine old above below. ([], tt, tt))
  steps_are [] (pair ∷ pairs) low high order signs gentle = absurd signs
  steps_are (at ∷ steps) [] low high order signs gentle = absurd signs
  steps_are (at ∷ steps) (pair ∷ pairs) low high order (signs, later) (gentle, gently) =
      let (n, box) = box_exists m w (listed_heads m at pair.low) (listed_heads m at pair.high) (λ c here converts. signs.low_gentle.wet c here.within here.active converts)
      (λ c here converts. signs.high_gentle.wet c here.within here.active converts) in
      let (k, bounds) = bound_exists (cell_count m.grid) (balance_rate m w at valid (listed_heads m at pair.low) (listed_heads m at pair.high) n box) in
      let crosses = signs_order m valid at w unit units pair low high order signs in
      let (D, rest) = steps_are steps pairs (listed_heads m at pair.low) (listed_heads m at pair.high) crosses.1 later gently in (
        k * den unit + D,
        λ e some fine old above below.
            let one = solved m w valid unit units at pair gentle n box low old high signs above below e some
            (λ c lt. omega (arith, fine, mul-le-mul_right (den unit) (bounds c lt))) (λ c v. scaled e _ _ (crosses.0 c v)) in
            let inside = between m valid at (10 ^ 9 * e) one.X pair one.lies in
            let (Xs, solves, lie) = rest e some (omega (arith, fine)) (heads_at m at (10 ^ 9 * e) one.X) inside.0 inside.1 in
            (one.X ∷ Xs, (one.solves, solves), (one.lies, lie)),
      )
    where
      scaled : (e : ℕ) (a b : ℤ) → a ≤ℤ b → (a *ℤ pos e) ≤ℤ (b *ℤ pos e)
      scaled e a b le = mul_mono_right e a b le

-- signs by a unit are signs by a smaller one
module _ (m : FlowModel) (w : ConvertibleLayers) (unit closer : Ratio) (le : RatioAtMost closer unit) where
  less : AtMost (as_fraction closer) (as_fraction unit)
  less = record { at_most = let k = le.cross in omega (arith, ints, k) }

  more : AtMost (opposite (as_fraction unit)) (opposite (as_fraction closer))
  more = record { at_most = let k = le.cross in omega (arith, ints, k, neg_times (pos unit.num) (pos (den closer)), neg_times (pos closer.num) (pos (den unit))) }

  signs_at : (at : TimeStep) (low high : ℕ → Fraction) (pair : ListedPair) → HasSignsAt unit m w at low high pair → HasSignsAt closer m w at low high pair
  signs_at at low high pair signs = record {
    low_gentle = signs.low_gentle;
    high_gentle = signs.high_gentle;
    low = All-In (λ c. GainsAtLeast closer (water_balance m w at low (listed_heads m at pair.low) c)) (variable_cells m at.period) (λ c i. AtMost-trans less
        (In-All (λ c. GainsAtLeast unit (water_balance m w at low (listed_heads m at pair.low) c)) (variable_cells m at.period) c signs.low i));
    high = All-In (λ c. LosesAtLeast closer (water_balance m w at high (listed_heads m at pair.high) c)) (variable_cells m at.period) (λ c i. AtMost-trans
        (In-All (λ c. LosesAtLeast unit (water_balance m w at high (listed_heads m at pair.high) c)) (variable_cells m at.period) c signs.high i) more);
  }

  signs_from : (steps : List TimeStep) (pairs : List ListedPair) (low high : ℕ → Fraction) → HasSignsFrom unit m w low high steps pairs → HasSignsFrom closer m w low high steps pairs
  signs_from [] [] low high signs = tt
  signs_from [] (pair ∷ pairs) low high signs = absurd signs
  signs_from (at ∷ steps) [] low high signs = absurd signs
  signs_from (at ∷ steps) (pair ∷ pairs) low high (signs, later) =
      (signs_at at low high pair signs, signs_from steps pairs (listed_heads m at pair.low) (listed_heads m at pair.high) later)

pub histories_exist : HistoriesExist
histories_exist unit closer m w pairs valid some le signs gentle =
    let start : AreInOrder m (start_head m) (start_head m) = λ c here. AtMost-of _ _ refl in
    let by_closer = signs_from m w unit closer le (times m) pairs (start_head m) (start_head m) signs in
    let (D, each) = steps_are m w valid closer some (times m) pairs (start_head m) (start_head m) start by_closer gentle in
    let (Xs, solves, lie) = each (suc D) (omega arith) (omega arith) (start_head m) start start in
    record {
      d = 10 ^ 9 * suc D;
      history = Xs;
      solves = record { some = omega arith; steps = solves };
      within = lie;
    }
