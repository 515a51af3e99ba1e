-- An elevation in whole units of 10^-9 beside a head.
use Rattle.gentle_heads.proofs.Common.{◌≡◌, ℕ, ◌+◌, ◌-◌, ◌*◌, ◌^◌, ◌<◌, ◌≤◌, ◌↔◌, IsTrue, Bool, List, true, false, refl, sym, subst, arith, ℤ, pos, neg_ℤ, ◌+ℤ◌, ◌-ℤ◌, ◌*ℤ◌, ◌≤ℤ◌, ◌<ℤ◌, mul-pos}
use Rattle.gentle_heads.proofs.Common.{false≢true, by_lt_z, ints, ◌||◌, le_over, over_le, IsOver-minus, IsBelow, minus, share, own_over, cancel_right, mul_mono_right, Fraction, IsOver, IsCeilingPast}
use Rattle.gentle_heads.proofs.Common.{IsFloorPast, IsSignedCeiling, IsSignedFloor, number, size, with_sign, AtMost, den, FlowModel, bottom_at, is_active, layer_size, Bound, IsMagnitudeAtMost}
use Rattle.gentle_heads.proofs.Common.{ConvertibleLayers, is_convertible, IsOverBottom, lower_head}
use Rattle.std.specs.Int.Signed.{le_z, lt_z}
use Rattle.cell_balance.proofs.{Deep.sub_mul, Encloses.share_is}
use Rattle.decimal_input.specs.declared.dec.Dec.{Dec}
use Rattle.problem_builder.proofs.Fits.{floor_not_negative}

pub ceiling_at : (f : Fraction) (z head : ℤ) → IsSignedCeiling z f 9 → (z ≤ℤ head) ↔ AtMost f (share (10 ^ 9) head)
ceiling_at f z head h = (
  λ le. record { at_most = omega (arith, ints, h.at_least, mul_mono_right (den f) z head le) },
  λ a. by_lt_z head z (λ lt. absurd (omega (arith, ints, a.at_most, h.next, mul_mono_right (den f) head (z +ℤ neg_ℤ (pos 1)) (omega (arith, ints, lt))))) (λ le. le),
)

pub floor_at : (f : Fraction) (z head : ℤ) → IsSignedFloor z f 9 → (z <ℤ head) ↔ IsBelow f (share (10 ^ 9) head)
floor_at f z head h = (
  λ lt. record { below = omega (arith, ints, h.next, mul_mono_right (den f) (z +ℤ pos 1) head (omega (arith, ints, lt))) },
  λ b. by_lt_z z head (λ lt. lt) (λ le. absurd (omega (arith, ints, b.below, h.at_most, mul_mono_right (den f) head z le))),
)

-- of a number of the input the sign of its ceiling and its floor is its own
not_above : (d : Dec) → d.neg ≡ true → (number d).num ≤ℤ pos 0
not_above d e = subst (λ (b : Bool). with_sign b (size d).num ≤ℤ pos 0) (sym e) (omega (arith, ints))

not_below : (d : Dec) → d.neg ≡ false → pos 0 ≤ℤ (number d).num
not_below d e = subst (λ (b : Bool). pos 0 ≤ℤ with_sign b (size d).num) (sym e) (omega (arith, ints))

ceiling_low : (f : Fraction) (z : ℤ) → f.num ≤ℤ pos 0 → IsSignedCeiling z f 9 → z ≤ℤ pos 0
ceiling_low f z low h = by_lt_z (pos 0) z
    (λ lt. absurd (omega (arith, ints, h.next, mul_mono_right (den f) (pos 0) (z +ℤ neg_ℤ (pos 1)) (omega (arith, ints, lt)), mul_mono_right (10 ^ 9) f.num (pos 0) low))) (λ le. le)

ceiling_high : (f : Fraction) (z : ℤ) → pos 0 ≤ℤ f.num → IsSignedCeiling z f 9 → pos 0 ≤ℤ z
ceiling_high f z high h = cancel_right (den f) (pos 0) z (omega arith) (omega (arith, ints, h.at_least, mul_mono_right (10 ^ 9) (pos 0) f.num high))

floor_low : (f : Fraction) (z : ℤ) → f.num ≤ℤ pos 0 → IsSignedFloor z f 9 → z ≤ℤ pos 0
floor_low f z low h = cancel_right (den f) z (pos 0) (omega arith) (omega (arith, ints, h.at_most, mul_mono_right (10 ^ 9) f.num (pos 0) low))

-- Past all units of 126 bits the sign alone decides.
pub past_ceiling : (d : Dec) (head : ℤ) → IsCeilingPast (number d) 9 → IsMagnitudeAtMost head (2 ^ 100) → IsTrue d.neg ↔ AtMost (number d) (share (10 ^ 9) head)
past_ceiling d head h small = by_sign d.neg refl
  where
    both : (h.ceiling ≤ℤ head) ↔ AtMost (number d) (share (10 ^ 9) head)
    both = ceiling_at (number d) h.ceiling head h.is

    by_sign : (b : Bool) → d.neg ≡ b → IsTrue b ↔ AtMost (number d) (share (10 ^ 9) head)
    by_sign true e = (λ _. both.0 (omega (arith, ints, ceiling_low (number d) h.ceiling (not_above d e) h.is, h.past, small.above)), λ _. refl)
    by_sign false e = (
      λ f. absurd (false≢true f),
      λ a. absurd (omega (arith, ints, both.1 a, ceiling_high (number d) h.ceiling (not_below d e) h.is, h.past, small.below)),
    )

pub past_floor : (d : Dec) (head : ℤ) → IsFloorPast (number d) 9 → IsMagnitudeAtMost head (2 ^ 100) → IsTrue d.neg ↔ IsBelow (number d) (share (10 ^ 9) head)
past_floor d head h small = by_sign d.neg refl
  where
    both : (h.floor <ℤ head) ↔ IsBelow (number d) (share (10 ^ 9) head)
    both = floor_at (number d) h.floor head h.is

    by_sign : (b : Bool) → d.neg ≡ b → IsTrue b ↔ IsBelow (number d) (share (10 ^ 9) head)
    by_sign true e = (λ _. both.0 (omega (arith, ints, floor_low (number d) h.floor (not_above d e) h.is, h.past, small.above)), λ _. refl)
    by_sign false e = (
      λ f. absurd (false≢true f),
      λ a. absurd (omega (arith, ints, both.1 a, floor_not_negative (number d) h.floor (not_below d e) h.is, h.past, small.below)),
    )

-- The fall from an upper head u to a lower head l, beside what of the cell is wet: u - l is at most l less the bottom where the bottom is at or below l - (u - l).
pub fall_is : (f : Fraction) (l u : ℤ) → AtMost f (share (10 ^ 9) (l -ℤ (u -ℤ l))) ↔ AtMost (minus (share (10 ^ 9) u) (share (10 ^ 9) l)) (minus (share (10 ^ 9) l) f)
fall_is f l u =
    let D = 10 ^ 9 * den f in
    let some : 0 < D = mul-pos (omega arith) (omega arith) in
    let of : IsOver D f (f.num *ℤ pos (10 ^ 9)) = own_over (10 ^ 9) f in
    let ol = share_is (10 ^ 9) (den f) l (omega arith) in
    let ou = share_is (10 ^ 9) (den f) u (omega arith) in
    let ox = share_is (10 ^ 9) (den f) (l -ℤ (u -ℤ l)) (omega arith) in
    let falls = IsOver-minus D (share (10 ^ 9) u) (share (10 ^ 9) l) _ _ ou ol in
    let wet = IsOver-minus D (share (10 ^ 9) l) f _ _ ol of in
    let e : (l -ℤ (u -ℤ l)) *ℤ pos (den f) ≡ l *ℤ pos (den f) -ℤ (u *ℤ pos (den f) -ℤ l *ℤ pos (den f)) = rw (sub_mul l (u -ℤ l) (pos (den f)), sub_mul u l (pos (den f))) refl in (
      λ a. le_over D _ _ _ _ some falls wet (omega (arith, ints, e, over_le D f (share (10 ^ 9) (l -ℤ (u -ℤ l))) _ _ of ox a)),
      λ a. le_over D f (share (10 ^ 9) (l -ℤ (u -ℤ l))) _ _ some of ox (omega (arith, ints, e, over_le D _ _ _ _ falls wet a)),
    )

-- tests on whole numbers
pub le_is : (a b : ℤ) (P : Type 0) → (a ≤ℤ b) ↔ P → IsTrue (le_z a b) ↔ P
le_is a b P h = (
  λ t. h.0 (let le : a ≤ℤ b = grind (arith, ints) in le),
  λ p. let le : a ≤ℤ b = h.1 p in let test : le_z a b ≡ true = grind (arith, ints) in test,
)

pub lt_is : (a b : ℤ) (P : Type 0) → (a <ℤ b) ↔ P → IsTrue (lt_z a b) ↔ P
lt_is a b P h = (
  λ t. h.0 (let less : a <ℤ b = grind (arith, ints) in less),
  λ p. let less : a <ℤ b = h.1 p in let test : lt_z a b ≡ true = grind (arith, ints) in test,
)

-- one cell lies right above a cell
pub over_bottom_is : (m : FlowModel) (w : ConvertibleLayers) (heads : List Bound) (c above : ℕ) → above + layer_size m.grid ≡ c → (r : Bool) →
    IsTrue r ↔ (is_active m above ≡ true → (is_convertible m w above || is_convertible m w c) ≡ true → AtMost (number (bottom_at m above)) (lower_head heads c)) →
    IsTrue r ↔ IsOverBottom m w heads c
over_bottom_is m w heads c above at r h = (
  λ t u e. let same : above ≡ u = omega (arith, e, at) in
      subst (λ (x : ℕ). is_active m x ≡ true → (is_convertible m w x || is_convertible m w c) ≡ true → AtMost (number (bottom_at m x)) (lower_head heads c)) same (h.0 t),
  λ f. h.1 (f above at),
)
