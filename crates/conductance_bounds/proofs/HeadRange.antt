-- Heads of the input, as whole units, are in range.
use Rattle.conductance_bounds.proofs.Common.{ℕ, ◌^◌, ◌≤◌, arith, ℤ, pos, negsuc, neg_ℤ, ◌+ℤ◌, ◌*ℤ◌, ◌≤ℤ◌, unsigned_abs, w64, w128, ints, by_lt_z, Fraction, EnclosesSigned, IsSignedFloor}
use Rattle.conductance_bounds.proofs.Common.{IsSignedCeiling, IsFloorPast, IsCeilingPast, cancel_right, mul_mono_right, IsHeadUnits}
use Rattle.std.specs.Prelude.{FitsSigned}
use Rattle.decimal_input.specs.Fractions.{den}

abbrev head_limit : ℕ
head_limit = 4000000000000000000

abbrev pub InRange : Fraction → Type 0
InRange f = EnclosesSigned (neg_ℤ (pos 4000000000)) (pos 4000000000) 0 f

-- in units of 10 ^ -9
upper : (f : Fraction) → InRange f → (f.num *ℤ pos (10 ^ 9)) ≤ℤ (pos head_limit *ℤ pos (den f))
upper f h = grind (arith, mul_mono_right)

lower : (f : Fraction) → InRange f → (neg_ℤ (pos head_limit) *ℤ pos (den f)) ≤ℤ (f.num *ℤ pos (10 ^ 9))
lower f h = grind (arith, mul_mono_right)

pub floor_in_range : (f : Fraction) (z : ℤ) → InRange f → IsSignedFloor z f 9 → IsHeadUnits z
floor_in_range f z h k = record {
  above = by_lt_z z (neg_ℤ (pos head_limit))
      (λ lt. let one = mul_mono_right (den f) (z +ℤ pos 1) (neg_ℤ (pos head_limit)) (omega (arith, ints)) in absurd (omega (arith, ints, one, k.next, lower f h)))
      (λ le. le);
  below = cancel_right (den f) z (pos head_limit) (omega arith) (omega (arith, ints, k.at_most, upper f h));
}

pub ceiling_in_range : (f : Fraction) (z : ℤ) → InRange f → IsSignedCeiling z f 9 → IsHeadUnits z
ceiling_in_range f z h k = record {
  above = cancel_right (den f) (neg_ℤ (pos head_limit)) z (omega arith) (omega (arith, ints, k.at_least, lower f h));
  below = by_lt_z (pos head_limit) z
      (λ lt. let one = mul_mono_right (den f) (pos head_limit) (z +ℤ neg_ℤ (pos 1)) (omega (arith, ints)) in absurd (omega (arith, ints, one, k.next, upper f h)))
      (λ le. le);
}

small_word : (z : ℤ) → FitsSigned w64 z → 2 ^ 126 ≤ unsigned_abs z → ⊥
small_word (pos n) h k = omega (arith, ints)
small_word (negsuc n) h k = omega (arith, ints)

pub no_floor_past : (f : Fraction) → ((z : ℤ) → IsSignedFloor z f 9 → FitsSigned w64 z) → IsFloorPast f 9 → ⊥
no_floor_past f fits k = small_word k.floor (fits k.floor k.is) k.past

pub no_ceiling_past : (f : Fraction) → ((z : ℤ) → IsSignedCeiling z f 9 → FitsSigned w64 z) → IsCeilingPast f 9 → ⊥
no_ceiling_past f fits k = small_word k.ceiling (fits k.ceiling k.is) k.past

pub fits_wider : (z : ℤ) → FitsSigned w64 z → FitsSigned w128 z
fits_wider z h = omega (arith, ints, h)

pub fits_64 : (z : ℤ) → IsHeadUnits z → FitsSigned w64 z
fits_64 z h = omega (arith, ints, h.above, h.below)

pub fits_128 : (z : ℤ) → IsHeadUnits z → FitsSigned w128 z
fits_128 z h = omega (arith, ints, h.above, h.below)
