-- The pumped cell: all heads between its listed ones are gentle.
use Rattle.gentle_histories.proofs.Common.{share_is_over, ◌≡◌, ℕ, zero, suc, ◌<◌, inr, true, ℤ, pos, ◌*ℤ◌, ◌≤ℤ◌, ◌<ℤ◌, [], ◌∷◌, All, refl, arith, false≢true, clamps, ints, All-cons, All-nil, ◌^◌}
use Rattle.gentle_histories.proofs.Common.{Fraction, IsOver, number, IsBelow, le_over, IsOver-minus, IsOver-signed, Row, Face, bottom_at, constant_faces, is_variable, variable_cells, variable_faces}
use Rattle.gentle_histories.proofs.Common.{FallsGently, FallsWithin, IsGentle, LiesInPair, heads_at, narrow_pair, only_step, pumped_layers, pumped_model, AreAllGentleFrom, PumpedCellHasHistory}
use Rattle.gentle_histories.proofs.Common.{CellOver, thick_share}
use Rattle.water_table.proofs.Pumped.{has_two_solutions}
use Rattle.gentle_histories.proofs.{Histories.histories_exist, Cells.of_each}
unfoldable use Rattle.decimal_input.specs.{ratio, scaled_ratio}
unfoldable use Rattle.model_types.specs.{constant_head, given_in, times as all_times}

module _ (d : ℕ) (X : ℕ → ℤ) (some : 0 < d) (lies : All (LiesInPair d X narrow_pair) (variable_cells pumped_model 1)) where
  abbrev h : ℕ → Fraction
  h = heads_at pumped_model only_step d X

  is_middle : is_variable pumped_model 1 1 ≡ true
  unfolding given_in
  is_middle = refl

  lie : LiesInPair d X narrow_pair 1
  lie = of_each pumped_model has_two_solutions.valid only_step (LiesInPair d X narrow_pair) lies 1 (record { within = omega arith; variable = is_middle })

  middle : IsOver d (h 1) (X 1)
  unfolding given_in
  middle = share_is_over d (X 1) some

  left : IsOver d (h 0) (pos d)
  unfolding given_in constant_head scaled_ratio ratio
  left = record { is = omega (arith, ints) }

  right : IsOver d (h 2) (pos d)
  unfolding given_in constant_head scaled_ratio ratio
  right = record { is = omega (arith, ints) }

  abbrev walls : CellOver pumped_model pumped_layers 1 d
  unfolding scaled_ratio ratio
  walls = record { T = pos d; B = pos 0; top = record { is = omega (arith, ints) }; bottom = record { is = omega (arith, ints) }; room = omega (arith, ints, some) }

  least : (pos 599999990 *ℤ pos d) ≤ℤ (X 1 *ℤ pos (10 ^ 9))
  least = let k = lie.low.at_most in omega (arith, ints, k, some)

  positive : pos 0 <ℤ X 1
  positive = omega (arith, ints, least, some)

  falls_from : (n : ℕ) → IsOver d (h n) (pos d) → FallsWithin pumped_model pumped_layers h 1 n
  unfolding walls
  falls_from n one = le_over d _ _ _ _ some (IsOver-minus d (h n) (h 1) (pos d) (X 1) one middle)
      (IsOver-signed d _ _ (thick_share pumped_model pumped_layers 1 d some walls h (X 1) middle (λ e. positive))) (omega (arith, ints, clamps, least, some))

  abbrev Falls : ℕ → Face → Type 0
  Falls c x = FallsGently pumped_model pumped_layers h c x.axis x.end

  above : (c : ℕ) → c < 3 → IsBelow (number (bottom_at pumped_model c)) (h c)
  unfolding given_in constant_head scaled_ratio ratio
  above zero k = record { below = omega (arith, ints) }
  above (suc zero) k = record { below = omega (arith, ints, least, some) }
  above (suc (suc zero)) k = record { below = omega (arith, ints) }
  above (suc (suc (suc c))) k = absurd (omega (arith, k))

  falls : (c : ℕ) → c < 3 → is_variable pumped_model 1 c ≡ true → All (Falls c) (variable_faces pumped_model 1 c) × All (Falls c) (constant_faces pumped_model 1 c)
  unfolding given_in
  falls zero k v = absurd (false≢true v)
  falls (suc zero) k v = (
    All-nil (Falls 1),
    All-cons (Falls 1) (record { axis = Row; first = 0; end = 0 }) (record { axis = Row; first = 1; end = 2 } ∷ []) (inr (falls_from 0 left))
        (All-cons (Falls 1) (record { axis = Row; first = 1; end = 2 }) [] (inr (falls_from 2 right)) (All-nil (Falls 1))),
  )
  falls (suc (suc zero)) k v = absurd (false≢true v)
  falls (suc (suc (suc c))) k v = absurd (omega (arith, k))

  gentle : IsGentle pumped_model pumped_layers 1 h
  gentle = record { wet = λ c k active converts. above c k; falls = falls; over_bottom = λ c k. absurd (omega (arith, k)) }

all_gentle : AreAllGentleFrom pumped_model pumped_layers (all_times pumped_model) (narrow_pair ∷ [])
unfolding all_times
all_gentle = (λ d X some lies. gentle d X some lies, tt)

pub pumped_cell_has_history : PumpedCellHasHistory
pumped_cell_has_history unit some le =
    histories_exist (ratio 1 (10 ^ 9)) unit pumped_model pumped_layers (narrow_pair ∷ []) has_two_solutions.valid some le has_two_solutions.signs all_gentle
