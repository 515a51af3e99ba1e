use Rattle.decimal_input.proofs.Common.{◌≡◌, ℕ, zero, suc, ◌+◌, ◌-◌, ◌*◌, ◌≤◌, ◌<◌, ◌^◌, arith, inl, inr, ap, ◌∙◌, Bool, true, false, ℤ, pos, neg_ℤ, ◌+ℤ◌, ◌*ℤ◌, ◌≤ℤ◌, ◌<ℤ◌, ◌/◌, Option, Some, None}
use Rattle.decimal_input.proofs.Common.{IfNone, refl, sym, subst, ints, cases_lt, Dec, with_sign, size, number, IsFloor, IsCeiling, IsSignedFloor, IsSignedCeiling, Ratio, scaled_ratio, IsFloorPast}
use Rattle.decimal_input.proofs.Common.{IsCeilingPast, lt-mul-div-succ, div-mul-le_self, div-lt_iff_lt-mul, IsUnits, Fraction, IfSome, not, den, differ, nat_le, floor, ceiling, signed_units, small}
use Rattle.decimal_input.proofs.Common.{FitsSigned, w128, units_of, lt-ltb, leb_tells, le-div_iff_mul-le}
use Rattle.std.specs.Prelude.{unsigned_abs}
use Rattle.std.specs.{Option.option_map, Bool.beq}
use Rattle.decimal_input.proofs.{FloorLaws.add_times, FloorLaws.one_times, FloorLaws.neg_times, Cross.lt_cancel}

pub signs_differ : (x y : Bool) → not (beq x y) ≡ differ x y
signs_differ true true = refl
signs_differ true false = refl
signs_differ false true = refl
signs_differ false false = refl

-- the product of a number with a sign
pub sign_times : (neg : Bool) (m p : ℕ) → with_sign neg m *ℤ pos p ≡ with_sign neg (m * p)
sign_times true m p = grind (arith, neg_times)
sign_times false m p = omega (arith, ints)

-- one more, times d
next_times : (z : ℤ) (d : ℕ) → (z +ℤ pos 1) *ℤ pos d ≡ z *ℤ pos d +ℤ pos d
next_times z d = add_times z (pos 1) (pos d) ∙ ap (λ (t : ℤ). z *ℤ pos d +ℤ t) (one_times d)

-- one less, times d
last_times : (z : ℤ) (d : ℕ) → (z +ℤ neg_ℤ (pos 1)) *ℤ pos d ≡ z *ℤ pos d +ℤ neg_ℤ (pos d)
last_times z d = add_times z (neg_ℤ (pos 1)) (pos d) ∙ ap (λ (t : ℤ). z *ℤ pos d +ℤ t) (neg_times (pos 1) (pos d) ∙ ap neg_ℤ (one_times d))

-- the whole number before a ceiling is too small
before : (n N d : ℕ) → ((k : ℕ) → N ≤ k * d → n ≤ k) → n * d ≤ N + d - 1
before zero N d least = omega arith
before (suc n) N d least = elim (cases_lt (n * d) N) [
  | inl h ↦ omega (arith, h)
  | inr h ↦ absurd (let k : suc n ≤ n = least n h in omega (arith, k))
]

floor_up : (neg : Bool) (m d p k : ℕ) (z : ℤ) → neg ≡ false → z ≡ pos k → k * d ≤ m * p → m * p < (k + 1) * d → ((z *ℤ pos d) ≤ℤ (with_sign neg m *ℤ pos p)) ×
    ((with_sign neg m *ℤ pos p) <ℤ ((z +ℤ pos 1) *ℤ pos d))
floor_up neg m d p k z f e low high = rw (f, e, next_times (pos k) d) (omega (arith, ints, low), omega (arith, ints, high))

floor_down : (neg : Bool) (m d p k : ℕ) (z : ℤ) → 0 < d → neg ≡ true → z ≡ neg_ℤ (pos k) → m * p ≤ k * d → k * d ≤ m * p + d - 1 →
    ((z *ℤ pos d) ≤ℤ (with_sign neg m *ℤ pos p)) × ((with_sign neg m *ℤ pos p) <ℤ ((z +ℤ pos 1) *ℤ pos d))
floor_down neg m d p k z pd f e low high = rw (f, e, next_times (neg_ℤ (pos k)) d, neg_times (pos k) (pos d), neg_times (pos m) (pos p)) (omega (arith, ints, low), omega (arith, ints, high))

ceiling_up : (neg : Bool) (m d p k : ℕ) (z : ℤ) → 0 < d → neg ≡ false → z ≡ pos k → m * p ≤ k * d → k * d ≤ m * p + d - 1 →
    ((with_sign neg m *ℤ pos p) ≤ℤ (z *ℤ pos d)) × (((z +ℤ neg_ℤ (pos 1)) *ℤ pos d) <ℤ (with_sign neg m *ℤ pos p))
ceiling_up neg m d p k z pd f e low high = rw (f, e, last_times (pos k) d) (omega (arith, ints, low), omega (arith, ints, high))

ceiling_down : (neg : Bool) (m d p k : ℕ) (z : ℤ) → neg ≡ true → z ≡ neg_ℤ (pos k) → k * d ≤ m * p → m * p < (k + 1) * d →
    ((with_sign neg m *ℤ pos p) ≤ℤ (z *ℤ pos d)) × (((z +ℤ neg_ℤ (pos 1)) *ℤ pos d) <ℤ (with_sign neg m *ℤ pos p))
ceiling_down neg m d p k z f e low high = rw (f, e, last_times (neg_ℤ (pos k)) d, neg_times (pos k) (pos d), neg_times (pos m) (pos p)) (omega (arith, ints, low), omega (arith, ints, high))

-- The floor of a number that isn't negative is that of its magnitude.
pub floor_of_floor : (a : Dec) (s k : ℕ) (z : ℤ) → a.neg ≡ false → z ≡ pos k → IsFloor k (size a) s → IsSignedFloor z (number a) s
floor_of_floor a s k z f e h = grind (arith, floor_up)

-- The floor of a negative number is the ceiling of its magnitude, negated.
pub floor_of_ceiling : (a : Dec) (s k : ℕ) (z : ℤ) → a.neg ≡ true → z ≡ neg_ℤ (pos k) → IsCeiling k (size a) s → IsSignedFloor z (number a) s
floor_of_ceiling a s k z f e h = grind (arith, floor_down, before)

-- The ceiling of a number that isn't negative is that of its magnitude.
pub ceiling_of_ceiling : (a : Dec) (s k : ℕ) (z : ℤ) → a.neg ≡ false → z ≡ pos k → IsCeiling k (size a) s → IsSignedCeiling z (number a) s
ceiling_of_ceiling a s k z f e h = grind (arith, ceiling_up, before)

-- The ceiling of a negative number is the floor of its magnitude, negated.
pub ceiling_of_floor : (a : Dec) (s k : ℕ) (z : ℤ) → a.neg ≡ true → z ≡ neg_ℤ (pos k) → IsFloor k (size a) s → IsSignedCeiling z (number a) s
ceiling_of_floor a s k z f e h = grind (arith, ceiling_down)

-- Each fraction has a floor.
pub a_floor : (f : Ratio) (s : ℕ) → (k : ℕ) × IsFloor k f s
a_floor f s =
    let positive : 0 < suc f.less = omega arith in
    ((f.num * 10 ^ s) / suc f.less, record { at_most = div-mul-le_self (f.num * 10 ^ s) (suc f.less); next = omega (arith, lt-mul-div-succ (f.num * 10 ^ s) positive) })

-- Each fraction has a ceiling.
pub a_ceiling : (f : Ratio) (s : ℕ) → (k : ℕ) × IsCeiling k f s
a_ceiling f s = some (f.num * 10 ^ s) f.less refl
  where
    some : (n less : ℕ) → f.num * 10 ^ s ≡ n → (k : ℕ) × IsCeiling k f s
    some n less e = let positive : 0 < suc f.less = omega arith in elim (cases_lt 0 n) [
      | inl h ↦ (
        (n - 1) / suc f.less + 1,
        record {
          at_least = omega (arith, e, lt-mul-div-succ (n - 1) positive);
          least = λ k le. let below : (n - 1) / suc f.less < k = (div-lt_iff_lt-mul positive).1 (omega (arith, e, le)) in omega (arith, below);
        },
      )
      | inr h ↦ (0, record { at_least = omega (arith, e, h); least = λ k le. omega arith })
    ]

-- The floor and the ceiling as quotients.
pub floor_is : (n s : ℕ) (f : Ratio) → IsFloor n f s → (f.num * 10 ^ s + 0) / den f ≡ n
floor_is n s f h = grind (arith, le-div_iff_mul-le, div-lt_iff_lt-mul)

pub ceiling_is : (n s : ℕ) (f : Ratio) → IsCeiling n f s → (f.num * 10 ^ s + f.less) / den f ≡ n
ceiling_is n s f h = grind (arith, div-lt_iff_lt-mul)

-- a number of units below the limit, and one that isn't
pub small_is : (k : ℕ) → k < 2 ^ 126 → Some k ≡ small k
small_is k lt = rw (lt-ltb k (2 ^ 126) lt) refl

too_large : (k : ℕ) → 2 ^ 126 ≤ k → None ≡ small k
too_large k h = grind (arith, leb_tells, nat_le)

reached : (n k m d : ℕ) → n * d ≤ m → m < (k + 1) * d → n ≤ k
reached n k m d h lt = let p : n < k + 1 = lt_cancel d n (k + 1) (omega (arith, h, lt)) in omega (arith, p)

passed : (n k m d : ℕ) → n * d < m → m ≤ k * d → n < k
passed n k m d h le = lt_cancel d n k (omega (arith, h, le))

pub units_are : (up : Bool) (f : Ratio) (s : ℕ) (r : Option ℕ) → IsUnits up f s r → r ≡ units_of up f s
unfolding units_of
units_are false f s (Some n) h = rw (floor_is n s f h.0) (small_is n h.1)
units_are false f s None h = let (k, w) = a_floor f s in rw (floor_is k s f w) (too_large k (reached (2 ^ 126) k _ _ h.reach w.next))
units_are true f s (Some n) h = rw (ceiling_is n s f h.0) (small_is n h.1)
units_are true f s None h =
    let (k, w) = a_ceiling f s in
    let large : 2 ^ 126 - 1 < k = passed (2 ^ 126 - 1) k _ _ h.pass w.at_least in
    rw (ceiling_is k s f w) (too_large k (omega (arith, large)))

pub units_small : (up : Bool) (f : Ratio) (s n : ℕ) → IsUnits up f s (Some n) → n < 2 ^ 126
units_small false f s n h = h.1
units_small true f s n h = h.1

pub sign_fits : (neg : Bool) (n : ℕ) → n < 2 ^ 126 → FitsSigned w128 (with_sign neg n)
sign_fits false n lt = omega (arith, ints, lt)
sign_fits true n lt = omega (arith, ints, lt)

-- the same of a number with its sign, where its exponent is written g
pub signed_are : (up : Bool) (a : Dec) (s : ℕ) (g : ℤ) (r : Option ℕ) → g ≡ a.exp → IsUnits (not (beq up a.neg)) (scaled_ratio a.digits g) s r → option_map (with_sign a.neg) r ≡ signed_units up a s
signed_are up a s g r e h = grind (arith, units_are, signs_differ)

-- what is known of a whole number k with a sign, of which small ones are kept
kept : (P : ℤ → Type 0) (Q : Type 0) (neg : Bool) (k : ℕ) (r : Option ℤ) → r ≡ option_map (with_sign neg) (small k) → P (with_sign neg k) → (2 ^ 126 ≤ k → Q) →
    IfSome r P × IfSome r (λ z. unsigned_abs z < 2 ^ 126) × IfNone r Q
kept P Q neg k r e p q =
    let R : Option ℤ → Type 0 = λ r. IfSome r P × IfSome r (λ z. unsigned_abs z < 2 ^ 126) × IfNone r Q in
    elim (cases_lt k (2 ^ 126)) as (λ _. R r) [
      | inl lt ↦ subst R (ap (option_map (with_sign neg)) (small_is k lt) ∙ sym e) (p, magnitude neg lt, tt)
      | inr ge ↦ subst R (ap (option_map (with_sign neg)) (too_large k ge) ∙ sym e) (tt, tt, q ge)
    ]
  where
    magnitude : (neg : Bool) → k < 2 ^ 126 → unsigned_abs (with_sign neg k) < 2 ^ 126
    magnitude false lt = lt
    magnitude true lt = omega (arith, ints, lt)

large : (neg : Bool) (k : ℕ) → 2 ^ 126 ≤ k → 2 ^ 126 ≤ unsigned_abs (with_sign neg k)
large false k h = h
large true k h = omega (arith, ints, h)

-- z is the ceiling (up) or the floor of f * 10 ^ s
abbrev pub IsSignedUnits : Bool → ℤ → Fraction → ℕ → Type 0
IsSignedUnits false z f s = IsSignedFloor z f s
IsSignedUnits true z f s = IsSignedCeiling z f s

-- Each number has a floor and a ceiling.
pub number_units : (up : Bool) (a : Dec) (s : ℕ) → (k : ℕ) × IsSignedUnits up (with_sign a.neg k) (number a) s × (signed_units up a s ≡ option_map (with_sign a.neg) (small k))
unfolding units_of
number_units up a s = by up a.neg refl
  where
    by : (up neg : Bool) → a.neg ≡ neg → (k : ℕ) × IsSignedUnits up (with_sign neg k) (number a) s ×
        (option_map (with_sign neg) (units_of (differ up neg) (size a) s) ≡ option_map (with_sign neg) (small k))
    by false false f = let (k, w) = a_floor (size a) s in (k, floor_of_floor a s k (pos k) f refl w, ap (λ (n : ℕ). option_map (with_sign false) (small n)) (floor_is k s (size a) w))
    by false true f = let (k, w) = a_ceiling (size a) s in (k, floor_of_ceiling a s k (neg_ℤ (pos k)) f refl w, ap (λ (n : ℕ). option_map (with_sign true) (small n)) (ceiling_is k s (size a) w))
    by true false f = let (k, w) = a_ceiling (size a) s in (k, ceiling_of_ceiling a s k (pos k) f refl w, ap (λ (n : ℕ). option_map (with_sign false) (small n)) (ceiling_is k s (size a) w))
    by true true f = let (k, w) = a_floor (size a) s in (k, ceiling_of_floor a s k (neg_ℤ (pos k)) f refl w, ap (λ (n : ℕ). option_map (with_sign true) (small n)) (floor_is k s (size a) w))

pub floor_means : (a : Dec) (s : ℕ) (r : Option ℤ) → r ≡ floor a s → IfSome r (λ z. IsSignedFloor z (number a) s) × IfSome r (λ z. unsigned_abs z < 2 ^ 126) × IfNone r (IsFloorPast (number a) s)
floor_means a s r e = let (k, w, is) = number_units false a s in kept _ _ a.neg k r (e ∙ is) w (λ h. record { floor = with_sign a.neg k; is = w; past = large a.neg k h })

pub ceiling_means : (a : Dec) (s : ℕ) (r : Option ℤ) → r ≡ ceiling a s → IfSome r (λ z. IsSignedCeiling z (number a) s) ×
    IfSome r (λ z. unsigned_abs z < 2 ^ 126) × IfNone r (IsCeilingPast (number a) s)
ceiling_means a s r e = let (k, w, is) = number_units true a s in kept _ _ a.neg k r (e ∙ is) w (λ h. record { ceiling = with_sign a.neg k; is = w; past = large a.neg k h })
