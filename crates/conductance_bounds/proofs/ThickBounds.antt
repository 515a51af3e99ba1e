-- A thickness lies between its two decimals, however the floors and ceilings were found.
use Rattle.conductance_bounds.proofs.Common.{◌≡◌, ℕ, ◌<◌, ◌≤◌, ◌^◌, arith, ap, subst, ℤ, pos, negsuc, neg_ℤ, ◌+ℤ◌, ◌-ℤ◌, ◌*ℤ◌, ◌≤ℤ◌, ◌<ℤ◌, unsigned_abs, ints, mul-pos, by_lt_z, Dec, number}
use Rattle.conductance_bounds.proofs.Common.{scaled_ratio, Fraction, IsSignedFloor, IsSignedCeiling, IsFloorPast, IsCeilingPast, AtMost-trans, scaled-AtMost, mul_mono_right, cancel_right, HasSize}
use Rattle.conductance_bounds.proofs.Common.{IsDown, IsUp, gap, IsThick, Span, IsBetween, Lower, Upper, AreThick, Option, Some, None, IfSome, ◌∙◌, sym, IfNone, unwrap_or, num_scaled, ten_pos, up}
use Rattle.conductance_bounds.proofs.Common.{rounded_decimal, span, units_at, one_rounded, rounded_positive}
use Rattle.decimal_input.specs.Fractions.{den}
use Rattle.conductance_bounds.proofs.{SpanBounds.abs_positive, SpanBounds.span_between, Units.ceiling_units, Units.floor_units, Units.units_ceiling, Units.units_floor}

floor_ceiling : (f : Fraction) (z w : ℤ) (P : ℤ) → (z *ℤ pos (den f)) ≤ℤ P → P ≤ℤ (w *ℤ pos (den f)) → z ≤ℤ w
floor_ceiling f z w P h k = cancel_right (den f) z w (omega arith) (omega (arith, ints, h, k))

-- a thick layer's bounds are in order, however they were found
pub thick_between : (top bottom : Dec) → IsThick top bottom → IsBetween (span top bottom).lo (span top bottom).hi (gap (number top) (number bottom))
thick_between top bottom thick =
    let low = floor_units top 18 thick.floor thick.is_floor in
    let high = ceiling_units bottom 18 thick.ceiling thick.is_ceiling in
    let tops = floor_ceiling (number top) _ _ _ (units_floor top 18).at_most (units_ceiling top 18).at_least in
    let bottoms = floor_ceiling (number bottom) _ _ _ (units_floor bottom 18).at_most (units_ceiling bottom 18).at_least in
    span_between top bottom thick (omega (arith, ints, low, high, thick.room)) (omega (arith, ints, low, high, thick.room, tops, bottoms))

-- a ceiling is the floor or the next number
next_to : (f : Fraction) (z w : ℤ) → IsSignedFloor z f 18 → IsSignedCeiling w f 18 → (z ≤ℤ w) × (w ≤ℤ (z +ℤ pos 1))
next_to f z w p q = (
  floor_ceiling f z w _ p.at_most q.at_least,
  by_lt_z (z +ℤ pos 1) w
      (λ lt. let over = mul_mono_right (den f) (z +ℤ pos 1) (w +ℤ neg_ℤ (pos 1)) (omega (arith, ints, lt)) in absurd (omega (arith, ints, over, p.next, q.next)))
      (λ le. le),
)

-- The other end of an elevation's units, where its own call finds it too large: it is one unit past a small one.
pub upper_end : (f : Fraction) (z w : ℤ) → IsSignedFloor z f 18 → IsSignedCeiling w f 18 → unsigned_abs z < 2 ^ 126 → 2 ^ 126 ≤ unsigned_abs w → w ≡ pos (2 ^ 126)
upper_end f z w p q small large =
    let (low, next) = next_to f z w p q in
    at_end z w low next small large
  where
    at_end : (z w : ℤ) → z ≤ℤ w → w ≤ℤ (z +ℤ pos 1) → unsigned_abs z < 2 ^ 126 → 2 ^ 126 ≤ unsigned_abs w → w ≡ pos (2 ^ 126)
    at_end (pos a) (pos b) p q s l = omega (arith, ints, p, q, s, l)
    at_end (pos a) (negsuc b) p q s l = absurd (omega (arith, ints, p))
    at_end (negsuc a) (pos b) p q s l = absurd (omega (arith, ints, q, l))
    at_end (negsuc a) (negsuc b) p q s l = absurd (omega (arith, ints, p, s, l))

pub lower_end : (f : Fraction) (z w : ℤ) → IsSignedFloor z f 18 → IsSignedCeiling w f 18 → unsigned_abs w < 2 ^ 126 → 2 ^ 126 ≤ unsigned_abs z → z ≡ neg_ℤ (pos (2 ^ 126))
lower_end f z w p q small large =
    let (low, next) = next_to f z w p q in
    at_end z w low next small large
  where
    at_end : (z w : ℤ) → z ≤ℤ w → w ≤ℤ (z +ℤ pos 1) → unsigned_abs w < 2 ^ 126 → 2 ^ 126 ≤ unsigned_abs z → z ≡ neg_ℤ (pos (2 ^ 126))
    at_end (pos a) (pos b) p q s l = absurd (omega (arith, ints, p, s, l))
    at_end (pos a) (negsuc b) p q s l = absurd (omega (arith, ints, p))
    at_end (negsuc a) (pos b) p q s l = absurd (omega (arith, ints, q, l))
    at_end (negsuc a) (negsuc b) p q s l = omega (arith, ints, p, q, s, l)

pub floor_or_limit : (f : Fraction) (r : Option ℤ) (lo : ℤ) → lo ≡ unwrap_or r (neg_ℤ (pos (2 ^ 126))) → ((z : ℤ) → IsSignedFloor z f 18 → 2 ^ 126 ≤ unsigned_abs z → z ≡ neg_ℤ (pos (2 ^ 126))) →
    IfSome r (λ z. IsSignedFloor z f 18) → IfNone r (IsFloorPast f 18) → IsSignedFloor lo f 18
floor_or_limit f (Some z) lo e limit some past = subst (λ (w : ℤ). IsSignedFloor w f 18) (sym e) some
floor_or_limit f None lo e limit some past = subst (λ (w : ℤ). IsSignedFloor w f 18) (limit past.floor past.is past.past ∙ sym e) past.is

pub ceiling_or_limit : (f : Fraction) (r : Option ℤ) (hi : ℤ) → hi ≡ unwrap_or r (pos (2 ^ 126)) → ((z : ℤ) → IsSignedCeiling z f 18 → 2 ^ 126 ≤ unsigned_abs z → z ≡ pos (2 ^ 126)) →
    IfSome r (λ z. IsSignedCeiling z f 18) → IfNone r (IsCeilingPast f 18) → IsSignedCeiling hi f 18
ceiling_or_limit f (Some z) hi e limit some past = subst (λ (w : ℤ). IsSignedCeiling w f 18) (sym e) some
ceiling_or_limit f None hi e limit some past = subst (λ (w : ℤ). IsSignedCeiling w f 18) (limit past.ceiling past.is past.past ∙ sym e) past.is

-- both decimals of a thickness are above 0, in order, and of a size
pub are_thick : (t : Span) (low high : ℕ) → low ≤ high → IsDown t.lo (scaled_ratio low (neg_ℤ (pos 18))) → IsUp t.hi (scaled_ratio high (neg_ℤ (pos 18))) →
    HasSize t.lo (neg_ℤ (pos 35)) (pos 4) → HasSize t.hi (neg_ℤ (pos 35)) (pos 4) → AreThick t.lo t.hi
are_thick t low high le p q l h = record {
  low = p.decimal;
  high = q.decimal;
  low_size = record { positive = l.positive; above = omega (arith, ints, l.above); below = omega (arith, ints, l.below) };
  high_size = record { positive = h.positive; above = omega (arith, ints, h.above); below = omega (arith, ints, h.below) };
  order = AtMost-trans p.at_most (AtMost-trans (scaled-AtMost low high (neg_ℤ (pos 18)) le) q.at_least);
}

-- the units of a thickness, from the edges of both elevations
pub record HasRoom (a b c d : ℤ) : Type 0 where
  pub some : 0 < unsigned_abs (a -ℤ d)
  pub order : unsigned_abs (a -ℤ d) ≤ unsigned_abs (b -ℤ c)

room : (a b c d : ℤ) → (d +ℤ pos 1000000) ≤ℤ a → a ≤ℤ b → c ≤ℤ d → HasRoom a b c d
room a b c d p q r = record { some = abs_positive (a -ℤ d) (omega (arith, ints, p)); order = grows (a -ℤ d) (b -ℤ c) (omega (arith, ints, p)) (omega (arith, ints, q, r)) }
  where
    grows : (z w : ℤ) → pos 0 <ℤ z → z ≤ℤ w → unsigned_abs z ≤ unsigned_abs w
    grows (pos n) (pos k) p q = omega (arith, ints, q)
    grows (pos n) (negsuc k) p q = absurd (omega (arith, ints, q))
    grows (negsuc n) w p q = absurd (omega (arith, ints, p))

pub edges_room : (top bottom : Dec) → IsThick top bottom → HasRoom (units_at Lower top 18) (units_at Upper top 18) (units_at Lower bottom 18) (units_at Upper bottom 18)
edges_room top bottom thick =
    let low = floor_units top 18 thick.floor thick.is_floor in
    let high = ceiling_units bottom 18 thick.ceiling thick.is_ceiling in
    room _ _ _ _ (omega (arith, ints, low, high, thick.room)) (floor_ceiling (number top) _ _ _ (units_floor top 18).at_most (units_ceiling top 18).at_least)
    (floor_ceiling (number bottom) _ _ _ (units_floor bottom 18).at_most (units_ceiling bottom 18).at_least)

-- so the decimals are positive
pub span_positive : (top bottom : Dec) → IsThick top bottom → 0 < (span top bottom).lo.m
unfolding span
span_positive top bottom thick =
    let n = unsigned_abs (units_at Lower top 18 -ℤ units_at Upper bottom 18) in
    rounded_positive (scaled_ratio n (neg_ℤ (pos 18))) (rw (num_scaled n (neg_ℤ (pos 18))) (mul-pos (edges_room top bottom thick).some (ten_pos (up (neg_ℤ (pos 18))))))

-- the decimals of a number of units, rounded to both sides
pub span_is : (top bottom : Dec) (t : Span) (low high : ℕ) → low ≡ unsigned_abs (units_at Lower top 18 -ℤ units_at Upper bottom 18) → high ≡
    unsigned_abs (units_at Upper top 18 -ℤ units_at Lower bottom 18) →
    IsDown t.lo (scaled_ratio low (neg_ℤ (pos 18))) → IsUp t.hi (scaled_ratio high (neg_ℤ (pos 18))) → t ≡ span top bottom
unfolding span
span_is top bottom t low high e f p q =
    let lower = one_rounded Lower t.lo _ p ∙ ap (λ (n : ℕ). rounded_decimal Lower (scaled_ratio n (neg_ℤ (pos 18)))) e in
    let upper = one_rounded Upper t.hi _ q ∙ ap (λ (n : ℕ). rounded_decimal Upper (scaled_ratio n (neg_ℤ (pos 18)))) f in
    λ i. record { lo = lower i; hi = upper i }

-- every floor of the upper elevation, and every ceiling of the lower one, is small
pub top_small : (top bottom : Dec) → IsThick top bottom → (z : ℤ) → IsSignedFloor z (number top) 18 → unsigned_abs z < 2 ^ 126
top_small top bottom thick z h = subst (λ (w : ℤ). unsigned_abs w < 2 ^ 126) (floor_units top 18 thick.floor thick.is_floor ∙ sym (floor_units top 18 z h)) thick.small.0

pub bottom_small : (top bottom : Dec) → IsThick top bottom → (z : ℤ) → IsSignedCeiling z (number bottom) 18 → unsigned_abs z < 2 ^ 126
bottom_small top bottom thick z h = subst (λ (w : ℤ). unsigned_abs w < 2 ^ 126) (ceiling_units bottom 18 thick.ceiling thick.is_ceiling ∙ sym (ceiling_units bottom 18 z h)) thick.small.1
