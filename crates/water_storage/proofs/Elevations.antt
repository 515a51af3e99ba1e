-- The floor and the ceiling of the top of an active cell, in units of 10^-9.
use Rattle.water_storage.proofs.Common.{◌≡◌, ℕ, ◌<◌, ◌^◌, arith, sym, subst, ℤ, pos, neg_ℤ, ◌+ℤ◌, ◌*ℤ◌, ◌≤ℤ◌, ints, by_lt_z, Fraction, number, den, IsTop, ◌<ℤ◌, Option, Some, None, IfNone, IfSome}
use Rattle.water_storage.proofs.Common.{unsigned_abs, Dec, IsCeilingPast, IsFloorPast, IsSignedCeiling, IsSignedFloor, cancel_right, floor_ceiling_enclose, last_factors_swap, mul_mono_right, Lower}
use Rattle.water_storage.proofs.Common.{Upper, IsThick, units_ceiling, units_floor}
use Rattle.std.specs.Option.{unwrap_or}
unfoldable use Rattle.conductance_bounds.specs.{units_at}

-- a floor of a small number is returned, and so is a ceiling
pub small_floor : (f : Fraction) (r : Option ℤ) (lo : ℤ) → lo ≡ unwrap_or r (pos 0) → ((z : ℤ) → IsSignedFloor z f 9 → unsigned_abs z < 2 ^ 126) →
    IfSome r (λ z. IsSignedFloor z f 9) → IfNone r (IsFloorPast f 9) → IsSignedFloor lo f 9
small_floor f (Some z) lo e small some past = subst (λ (w : ℤ). IsSignedFloor w f 9) (sym e) some
small_floor f None lo e small some past = absurd (omega (arith, small past.floor past.is, past.past))

pub small_ceiling : (f : Fraction) (r : Option ℤ) (hi : ℤ) → hi ≡ unwrap_or r (pos 0) → ((z : ℤ) → IsSignedCeiling z f 9 → unsigned_abs z < 2 ^ 126) →
    IfSome r (λ z. IsSignedCeiling z f 9) → IfNone r (IsCeilingPast f 9) → IsSignedCeiling hi f 9
small_ceiling f (Some z) hi e small some past = subst (λ (w : ℤ). IsSignedCeiling w f 9) (sym e) some
small_ceiling f None hi e small some past = absurd (omega (arith, small past.ceiling past.is, past.past))

cancel_below : (k : ℕ) (a b : ℤ) → (a *ℤ pos k) <ℤ (b *ℤ pos k) → a <ℤ b
cancel_below k a b lt = by_lt_z a b (λ h. h) (λ h. absurd (omega (arith, ints, lt, mul_mono_right k b a h)))

module _ (top bottom : Dec) (k : IsThick top bottom) where
  abbrev f : Fraction
  f = number top

  pub floor_small : (z : ℤ) → IsSignedFloor z f 9 → unsigned_abs z < 2 ^ 126
  floor_small z h =
      let fine = k.is_floor in
      let lower : (z *ℤ pos (10 ^ 9)) <ℤ (k.floor +ℤ pos 1) = cancel_below (den f) _ _ (omega (arith, ints, last_factors_swap z (pos (10 ^ 9)) (pos (den f)), h.at_most, fine.next)) in
      let upper : k.floor <ℤ ((z +ℤ pos 1) *ℤ pos (10 ^ 9)) = cancel_below (den f) _ _ (omega (arith, ints, last_factors_swap (z +ℤ pos 1) (pos (10 ^ 9)) (pos (den f)), h.next, fine.at_most)) in
      omega (arith, ints, lower, upper, k.small.0)

  pub ceiling_small : (z : ℤ) → IsSignedCeiling z f 9 → unsigned_abs z < 2 ^ 126
  ceiling_small z h =
      let fine = k.is_floor in
      let lower : ((z +ℤ neg_ℤ (pos 1)) *ℤ pos (10 ^ 9)) <ℤ (k.floor +ℤ pos 1) =
      cancel_below (den f) _ _ (omega (arith, ints, last_factors_swap (z +ℤ neg_ℤ (pos 1)) (pos (10 ^ 9)) (pos (den f)), h.next, fine.next)) in
      let upper : k.floor ≤ℤ (z *ℤ pos (10 ^ 9)) = cancel_right (den f) _ _ (omega arith) (omega (arith, ints, last_factors_swap z (pos (10 ^ 9)) (pos (den f)), h.at_least, fine.at_most)) in
      omega (arith, ints, lower, upper, k.small.0)

pub top_is : (x : Dec) → IsTop (record { low = units_at Lower x 9; high = units_at Upper x 9 })
top_is x =
    let p = units_floor x 9 in
    let q = units_ceiling x 9 in
    let e = floor_ceiling_enclose (number x) 9 _ _ p q in
    let less : (units_at Upper x 9 +ℤ neg_ℤ (pos 1)) <ℤ (units_at Lower x 9 +ℤ pos 1) = cancel_below (den (number x)) _ _ (omega (arith, ints, p.next, q.next)) in
    record {
      order = cancel_right (den (number x)) _ _ (omega arith) (omega (arith, ints, e.lower, e.upper));
      near = omega (arith, ints, less);
    }
