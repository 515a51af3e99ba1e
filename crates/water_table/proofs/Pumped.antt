-- The pumped cell: all is computed.
use Rattle.water_table.proofs.Common.{◌≡◌, ℕ, zero, suc, ◌<◌, inl, inr, true, pos, negsuc, [], ◌∷◌, All, refl, arith, ints, false≢true, IsBelow, IsDec, IsEntryValid, IsHeadNumber, IsModel}
use Rattle.water_table.proofs.Common.{IsNotNegative, IsPositive, IsTimed, no_number, bottom_at, constant_faces, is_variable, start_head, variable_cells, variable_faces, HasTwoSolutions, IsGentle}
use Rattle.water_table.proofs.Common.{HasSigns, middle_balance, middle_head, narrow_pair, only_step, pumped_layers, pumped_model, pumping, FallsGently, FallsWithin, GainsAtLeast, HasSignsAt}
use Rattle.water_table.proofs.Common.{LosesAtLeast, listed_heads, water_balance, Row, ◌^◌, Fraction, number, sym, zero-*ℤ, neg_times, ◌*◌, ◌*ℤ◌, ◌<ℤ◌, mul-pos, Ratio, den, IsWithin, NearlySolves}
use Rattle.water_table.proofs.Common.{middle_history}
use Rattle.std.proofs.lemmas.List.Elements.{All-nil, All-cons, All-head}
use Rattle.flow_equations.specs.{cell, decimal, period_with}
use Rattle.flow_equations.proofs.Validity.{row_valid}
use Rattle.model_types.specs.{declared.entry.Entry.TheVariants.Well, declared.face.Face.Face}
unfoldable use Rattle.decimal_input.specs.{over, ratio, scaled_ratio, Ratios.plus, Ratios.times}
unfoldable use Rattle.model_types.specs.{constant_head, entries_of, given_in, half, in_a_row, times as all_times, variable_below}
unfoldable use Rattle.water_table.specs.{row_branch, saturated_thickness, storage_flow}

one_dec : IsDec (decimal 1 0)
one_dec = record { few = omega arith; form = inr (omega arith, omega arith); above = omega (arith, ints); below = omega (arith, ints) }

one_positive : IsPositive (decimal 1 0)
one_positive = record { decimal = one_dec; sign = refl; positive = omega arith }

one_head : IsHeadNumber (decimal 1 0)
unfolding scaled_ratio ratio
one_head = record { decimal = one_dec; range = record { lower = omega (arith, ints); upper = omega (arith, ints) } }

zero_head : IsHeadNumber no_number
unfolding scaled_ratio ratio
zero_head = record {
  decimal = record { few = omega arith; form = inl (refl, refl, refl); above = omega (arith, ints); below = omega (arith, ints) };
  range = record { lower = omega (arith, ints); upper = omega (arith, ints) };
}

pumping_dec : IsDec pumping
pumping_dec = record { few = omega arith; form = inr (omega arith, omega arith); above = omega (arith, ints); below = omega (arith, ints) }

timed : IsTimed (period_with true (decimal 1 0) 1 (Well (cell 1) pumping ∷ []))
timed = record {
  nstp = (omega arith, omega arith);
  perlen = record { decimal = one_dec; sign = refl };
  lasts = λ e. one_positive;
  tsmult = one_positive;
  growth = λ e. inl refl;
}

valid : IsModel pumped_model
valid = row_valid (negsuc 0 ∷ pos 1 ∷ negsuc 0 ∷ []) (decimal 1 0 ∷ no_number ∷ decimal 1 0 ∷ []) [] true (decimal 1 0) 1 (Well (cell 1) pumping ∷ []) 3 (omega arith) (omega arith)
    (All-cons IsHeadNumber (decimal 1 0) (no_number ∷ decimal 1 0 ∷ []) one_head
    (All-cons IsHeadNumber no_number (decimal 1 0 ∷ []) zero_head (All-cons IsHeadNumber (decimal 1 0) [] one_head (All-nil IsHeadNumber))))
    (All-nil IsNotNegative)
    refl refl (inl refl) timed (omega arith)
    (record { few = omega arith; entries = All-cons (IsEntryValid 3) (Well (cell 1) pumping) [] (omega arith, pumping_dec) (All-nil (IsEntryValid 3)) })

high : (middle_balance (pos 60)).num ≡ pos 0
unfolding variable_below given_in constant_head row_branch saturated_thickness in_a_row half entries_of scaled_ratio ratio plus times over storage_flow
high = refl

low : (middle_balance (pos 25)).num ≡ pos 0
unfolding variable_below given_in constant_head row_branch saturated_thickness in_a_row half entries_of scaled_ratio ratio plus times over storage_flow
low = refl

-- heads are gentle where each is above 0 and the head falls within the middle cell's saturated thickness from both sides
module _ (h : ℕ → Fraction) where
  abbrev Within : ℕ → Type 0
  Within n = FallsWithin pumped_model pumped_layers h 1 n

  abbrev Above : ℕ → Type 0
  Above c = IsBelow (number (bottom_at pumped_model c)) (h c)

  abbrev Falls : ℕ → Face → Type 0
  Falls c x = FallsGently pumped_model pumped_layers h c x.axis x.end

  module _ (first : Above 0) (middle : Above 1) (last : Above 2) (left : Within 0) (right : Within 2) where
    above : (c : ℕ) → c < 3 → Above c
    above zero k = first
    above (suc zero) k = middle
    above (suc (suc zero)) k = last
    above (suc (suc (suc c))) k = absurd (omega (arith, k))

    falls : (c : ℕ) → c < 3 → is_variable pumped_model 1 c ≡ true → All (Falls c) (variable_faces pumped_model 1 c) × All (Falls c) (constant_faces pumped_model 1 c)
    unfolding given_in
    falls zero k v = absurd (false≢true v)
    falls (suc zero) k v = (
      All-nil (Falls 1),
      All-cons (Falls 1) (record { axis = Row; first = 0; end = 0 }) (record { axis = Row; first = 1; end = 2 } ∷ [])
          (inr left) (All-cons (Falls 1) (record { axis = Row; first = 1; end = 2 }) [] (inr right) (All-nil (Falls 1))),
    )
    falls (suc (suc zero)) k v = absurd (false≢true v)
    falls (suc (suc (suc c))) k v = absurd (omega (arith, k))

    gentle_by : IsGentle pumped_model pumped_layers 1 h
    gentle_by = record { wet = λ c k active converts. above c k; falls = falls; over_bottom = λ c k. absurd (omega (arith, k)) }

gentle : IsGentle pumped_model pumped_layers 1 (middle_head (pos 60))
unfolding given_in constant_head saturated_thickness scaled_ratio ratio times
gentle = gentle_by (middle_head (pos 60)) (record { below = omega (arith, ints) }) (record { below = omega (arith, ints) })
    (record { below = omega (arith, ints) }) (record { at_most = omega (arith, ints) }) (record { at_most = omega (arith, ints) })

-- at 0.25 m the cell isn't full, and the fall of 0.75 m isn't within it
too_steep : FallsGently pumped_model pumped_layers (middle_head (pos 25)) 1 Row 0 → ⊥
unfolding given_in constant_head saturated_thickness scaled_ratio ratio times
too_steep (inl (inl e)) = false≢true (sym e)
too_steep (inl (inr full)) = omega (arith, ints, full.at_most)
too_steep (inr within) = omega (arith, ints, within.at_most)

steep : IsGentle pumped_model pumped_layers 1 (middle_head (pos 25)) → ⊥
unfolding given_in
steep g = too_steep (All-head (λ x. FallsGently pumped_model pumped_layers (middle_head (pos 25)) 1 x.axis x.end) (record { axis = Row; first = 0; end = 0 })
    (record { axis = Row; first = 1; end = 2 } ∷ []) (g.falls 1 (omega arith) refl).1)

low_gentle : IsGentle pumped_model pumped_layers 1 (listed_heads pumped_model only_step narrow_pair.low)
unfolding given_in constant_head saturated_thickness scaled_ratio ratio times
low_gentle = gentle_by (listed_heads pumped_model only_step narrow_pair.low) (record { below = omega (arith, ints) }) (record { below = omega (arith, ints) })
    (record { below = omega (arith, ints) }) (record { at_most = omega (arith, ints) }) (record { at_most = omega (arith, ints) })

high_gentle : IsGentle pumped_model pumped_layers 1 (listed_heads pumped_model only_step narrow_pair.high)
unfolding given_in constant_head saturated_thickness scaled_ratio ratio times
high_gentle = gentle_by (listed_heads pumped_model only_step narrow_pair.high) (record { below = omega (arith, ints) }) (record { below = omega (arith, ints) })
    (record { below = omega (arith, ints) }) (record { at_most = omega (arith, ints) }) (record { at_most = omega (arith, ints) })

gains : GainsAtLeast (ratio 1 (10 ^ 9)) (water_balance pumped_model pumped_layers only_step (start_head pumped_model) (listed_heads pumped_model only_step narrow_pair.low) 1)
unfolding variable_below given_in constant_head row_branch saturated_thickness in_a_row half entries_of scaled_ratio ratio plus times over storage_flow
gains = record { at_most = omega (arith, ints) }

loses : LosesAtLeast (ratio 1 (10 ^ 9)) (water_balance pumped_model pumped_layers only_step (start_head pumped_model) (listed_heads pumped_model only_step narrow_pair.high) 1)
unfolding variable_below given_in constant_head row_branch saturated_thickness in_a_row half entries_of scaled_ratio ratio plus times over storage_flow
loses = record { at_most = omega (arith, ints) }

-- the middle cell alone is variable
all_one : (P : ℕ → Type 0) → P 1 → All P (variable_cells pumped_model 1)
unfolding variable_below given_in
all_one P p = All-cons P 1 [] p (All-nil P)

signs_at : HasSignsAt (ratio 1 (10 ^ 9)) pumped_model pumped_layers only_step (start_head pumped_model) (start_head pumped_model) narrow_pair
signs_at = record {
  low_gentle = low_gentle;
  high_gentle = high_gentle;
  low = all_one (λ c. GainsAtLeast (ratio 1 (10 ^ 9)) (water_balance pumped_model pumped_layers only_step (start_head pumped_model) (listed_heads pumped_model only_step narrow_pair.low) c)) gains;
  high = all_one (λ c. LosesAtLeast (ratio 1 (10 ^ 9)) (water_balance pumped_model pumped_layers only_step (start_head pumped_model) (listed_heads pumped_model only_step narrow_pair.high) c)) loses;
}

signs : HasSigns (ratio 1 (10 ^ 9)) pumped_model pumped_layers (narrow_pair ∷ [])
unfolding all_times
signs = (signs_at, tt)

-- a balance of 0 is below any unit above 0
none_within : (unit : Ratio) (f : Fraction) → 0 < unit.num → f.num ≡ pos 0 → IsWithin unit f
none_within unit f some none =
    let k : 0 < unit.num * den f = mul-pos some (omega arith) in (
      record { below = rw (none, zero-*ℤ) (let e : pos 0 <ℤ (pos unit.num *ℤ pos (den f)) = omega (arith, ints, k) in e) },
      record { below = rw (none, zero-*ℤ, neg_times (pos unit.num) (pos (den f))) (omega (arith, ints, k)) },
    )

solved : NearlySolves (ratio 1 (10 ^ 9)) pumped_model pumped_layers 100 (middle_history (pos 60) ∷ [])
unfolding all_times ratio
solved = record {
  some = omega arith;
  steps = (
    record {
      gentle = gentle;
      balances =
          all_one (λ c. IsWithin (ratio 1 (10 ^ 9)) (water_balance pumped_model pumped_layers only_step (start_head pumped_model) (middle_head (pos 60)) c))
          (none_within (ratio 1 (10 ^ 9)) (middle_balance (pos 60)) (omega arith) high);
    },
    tt,
  );
}

pub has_two_solutions : HasTwoSolutions
has_two_solutions = record { valid = valid; high = high; low = low; high_is_gentle = gentle; low_is_steep = steep; signs = signs; solved = solved }
