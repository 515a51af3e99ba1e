-- Each ratio has one greatest 18-digit decimal not above it, and one least not below it.
use Rattle.scaled_decimal.proofs.Common.{◌≡◌, ℕ, suc, ◌+◌, ◌*◌, ◌-◌, ◌/◌, ◌≤◌, ◌<◌, ◌^◌, ◌∙◌, inl, inr, refl, sym, ap, subst, arith, ints, ℤ, pos, ◌+ℤ◌, pow-suc, pow-add, lt-mul-div-succ}
use Rattle.scaled_decimal.proofs.Common.{div-mul-le_self, le-div_iff_mul-le, div-lt_iff_lt-mul, lt_of_mul-lt-mul_right, mul-le-mul_right, cases_lt, Ratio, den, Same, ten_pos, num_scaled, den_scaled}
use Rattle.scaled_decimal.proofs.Common.{Sd, IsSd, value, IsDown, IsUp, IsFrom, IsUpTo, Same-both, cond_above, cond_below, IsFloor, IsCeiling, IsRounded, Lower, RoundedIsNearest, Side, UnitsAreWhole}
use Rattle.scaled_decimal.proofs.Common.{Upper, first_digits, in_units, of_units, rounded_decimal, div_below, le-div}
use Rattle.std.specs.Prelude.{zero, negsuc, ◌-ℤ◌, length}
use Rattle.std.specs.Int.Digits.{digits_of}
use Rattle.std.proofs.lemmas.Int.Digits.{all_below_base_digits_of, length-digits_of-le, number_digits_of, number_lt}
use Rattle.decimal_input.proofs.SignedFloors.{a_ceiling, a_floor, ceiling_is, floor_is}
use Rattle.scaled_decimal.proofs.{Between.few_places, Monotone.one_decimal, Nearest.cut_down_by, Nearest.up_at_18, Nearest.up_at_nines, Products.zero_down, Products.zero_up}

-- Whole units.
pub one_floor : (f : Ratio) (n s : ℕ) → IsFloor n f s → n ≡ in_units Lower f s
unfolding in_units
one_floor f n s h = let e : f.num * 10 ^ s + 0 ≡ f.num * 10 ^ s = omega arith in sym (floor_is n s f h) ∙ ap (λ (x : ℕ). x / den f) e

pub one_ceiling : (f : Ratio) (n s : ℕ) → IsCeiling n f s → n ≡ in_units Upper f s
unfolding in_units
one_ceiling f n s h = let e : f.num * 10 ^ s + f.less ≡ f.num * 10 ^ s + (den f - 1) = omega arith in sym (ceiling_is n s f h) ∙ ap (λ (x : ℕ). x / den f) e

pub is_floor : (f : Ratio) (s : ℕ) → IsFloor (in_units Lower f s) f s
is_floor f s = let (n, is) = a_floor f s in subst (λ (k : ℕ). IsFloor k f s) (one_floor f n s is) is

pub is_ceiling : (f : Ratio) (s : ℕ) → IsCeiling (in_units Upper f s) f s
is_ceiling f s = let (n, is) = a_ceiling f s in subst (λ (k : ℕ). IsCeiling k f s) (one_ceiling f n s is) is

pub units_are_whole : UnitsAreWhole
units_are_whole = record { floors = is_floor; ceilings = is_ceiling }

-- The first 18 digits of a long number.
digits_at : (n l j : ℕ) → l ≡ 18 + j → n < 10 ^ l → (n < 10 ^ (17 + j) → l ≤ 17 + j) → (10 ^ 17 * 10 ^ j ≤ n) × (n < 10 ^ 18 * 10 ^ j)
digits_at n l j e lt short = grind (arith, cases_lt, pow-add)

abbrev more : ℕ → ℕ
more n = length (digits_of 10 n) - 18

digits : (n : ℕ) → 10 ^ 17 ≤ n → (10 ^ 17 * 10 ^ more n ≤ n) × (n < 10 ^ 18 * 10 ^ more n)
digits n h =
    let ds = digits_of 10 n in
    let lt : n < 10 ^ length ds = subst (λ (k : ℕ). k < 10 ^ length ds) (number_digits_of 10 n (omega arith)) (number_lt 10 ds (all_below_base_digits_of 10 n (omega arith))) in
    let many : 17 < length ds = few_places 17 n (length ds) h lt in
    digits_at n (length ds) (length ds - 18) (omega (arith, many)) lt (λ less. length-digits_of-le 10 (17 + (length ds - 18)) n (omega arith) less)

abbrev plain : ℕ → ℤ → Sd
plain m e = record { m = m; e = e }

some_units : (m : ℕ) (e : ℤ) → 0 < m → m < 10 ^ 18 → plain m e ≡ of_units m e
some_units m e h lt = cond_below m (10 ^ 18) (plain m e) (plain (10 ^ 17) (e +ℤ pos 1)) lt ∙ cond_below 0 m _ (plain 0 (pos 0)) h

full_units : (m : ℕ) (e : ℤ) → m ≡ 10 ^ 18 → plain (10 ^ 17) (e +ℤ pos 1) ≡ of_units m e
full_units m e h = cond_above m (10 ^ 18) (plain m e) (plain (10 ^ 17) (e +ℤ pos 1)) (plain (10 ^ 17) (e +ℤ pos 1)) (omega (arith, h)) refl ∙ cond_below 0 m _ (plain 0 (pos 0)) (omega (arith, h))

cut_down : (n p k : ℕ) (f : Ratio) → p ≡ suc k → 10 ^ 17 ≤ n → IsFrom n (negsuc k) f → IsDown (first_digits Lower n p) f × (0 < (first_digits Lower n p).m)
cut_down n p k f e long is =
    let (least, most) = digits n long in
    let u = 10 ^ more n in
    let front : 10 ^ 17 ≤ n / u = le-div (10 ^ 17) n u (ten_pos (more n)) least in
    let few : n / u < 10 ^ 18 = div_below n u (10 ^ 18) (ten_pos (more n)) most in
    let g = pos (more n) -ℤ pos p in
    subst (λ (r : Sd). IsDown r f × (0 < r.m)) (some_units (n / u) g (omega (arith, front)) few)
    (cut_down_by (plain (n / u) g) n u (more n) (negsuc k) refl least most refl (omega (arith, ints, e)) f is, omega (arith, front))

-- a quotient rounded up
above : (x d : ℕ) → 0 < x → 0 < d → (x + (d - 1)) / d ≡ (x - 1) / d + 1
above x d some h = grind (arith, div-mul-le_self, lt-mul-div-succ, le-div_iff_mul-le, div-lt_iff_lt-mul)

cut_up : (n p k : ℕ) (f : Ratio) → p ≡ suc k → 10 ^ 17 < n → IsUpTo (n - 1) (negsuc k) f → IsUp (first_digits Upper n p) f
cut_up n p k f e long is =
    let (least, most) = digits n (omega (arith, long)) in
    let u = 10 ^ more n in
    let positive : 0 < u = ten_pos (more n) in
    let g = pos (more n) -ℤ pos p in
    let m = (n + (u - 1)) / u in
    let front : m ≡ (n - 1) / u + 1 = above n u (omega (arith, long)) positive in
    let under : (n - 1) / u < 10 ^ 18 = div_below (n - 1) u (10 ^ 18) positive (omega (arith, most)) in
    let whole : 10 ^ 17 * u ≤ n - 1 + 1 = omega (arith, least, long) in
    elim (cases_lt ((n - 1) / u) (10 ^ 18 - 1)) [
      | inl few ↦ subst (λ (r : Sd). IsUp r f) (some_units m g (omega (arith, front)) (omega (arith, front, few)))
          (up_at_18 (plain m g) (n - 1) u (more n) (negsuc k) refl (omega (arith, long)) whole few front (omega (arith, ints, e)) f is)
      | inr many ↦ subst (λ (r : Sd). IsUp r f) (full_units m g (omega (arith, front, many, under)))
          (up_at_nines (plain (10 ^ 17) (g +ℤ pos 1)) (n - 1) u (more n) (negsuc k) refl (omega (arith, long)) whole (omega (arith, many, under)) refl (omega (arith, ints, e)) f is)
    ]

-- So many places make a positive ratio long.
ten_grows : (n : ℕ) → n < 10 ^ n
ten_grows zero = omega arith
ten_grows (suc n) = omega (arith, pow-suc 10 n, ten_grows n)

long : (f : Ratio) → 0 < f.num → 10 ^ 17 * den f < f.num * 10 ^ (17 + den f)
long f some = omega (arith, pow-add 10 17 (den f), ten_grows (den f), mul-le-mul_right (10 ^ (17 + den f)) some)

floor_from : (f : Ratio) (q k : ℕ) → IsFloor q f (suc k) → IsFrom q (negsuc k) f
floor_from f q k h = grind (arith, num_scaled, den_scaled)

ceiling_up_to : (f : Ratio) (n k : ℕ) → 0 < n → IsCeiling n f (suc k) → IsUpTo (n - 1) (negsuc k) f
ceiling_up_to f n k some h = record {
  after = record { cross = rw (num_scaled (n - 1) (negsuc k), den_scaled (n - 1) (negsuc k)) (omega (arith, past)) };
  up_to = record { cross = rw (num_scaled (n - 1 + 1) (negsuc k), den_scaled (n - 1 + 1) (negsuc k)) (omega (arith, h.at_least, same)) };
}
  where
    same : (n - 1 + 1) * den f ≡ n * den f
    same = let e : n - 1 + 1 ≡ n = omega arith in ap (λ (x : ℕ). x * den f) e

    past : (n - 1) * den f < f.num * 10 ^ suc k
    past = elim (cases_lt ((n - 1) * den f) (f.num * 10 ^ suc k)) [
      | inl less ↦ less
      | inr more ↦ absurd (omega (arith, h.least (n - 1) more))
    ]

-- the exponent, written as the power below the line
places : (f : Ratio) → 17 + den f ≡ suc (17 + f.less)
places f = omega arith

some_down : (f : Ratio) → 0 < f.num → IsDown (first_digits Lower (in_units Lower f (17 + den f)) (17 + den f)) f × (0 < (first_digits Lower (in_units Lower f (17 + den f)) (17 + den f)).m)
some_down f some =
    let q = in_units Lower f (17 + den f) in
    let is = is_floor f (17 + den f) in
    let many : 10 ^ 17 < q + 1 = lt_of_mul-lt-mul_right (den f) (omega (arith, long f some, is.next)) in
    cut_down q (17 + den f) (17 + f.less) f (places f) (omega (arith, many)) (floor_from f q (17 + f.less) (subst (λ (s : ℕ). IsFloor q f s) (places f) is))

some_up : (f : Ratio) → 0 < f.num → IsUp (first_digits Upper (in_units Upper f (17 + den f)) (17 + den f)) f
some_up f some =
    let n = in_units Upper f (17 + den f) in
    let is = is_ceiling f (17 + den f) in
    let many : 10 ^ 17 < n = lt_of_mul-lt-mul_right (den f) (omega (arith, long f some, is.at_least)) in
    cut_up n (17 + den f) (17 + f.less) f (places f) many (ceiling_up_to f n (17 + f.less) (omega (arith, many)) (subst (λ (s : ℕ). IsCeiling n f s) (places f) is))

none_rounded : (side : Side) (f : Ratio) (p : ℕ) → f.num ≡ 0 → IsRounded side (first_digits side (in_units side f p) p) f
none_rounded Lower f p h =
    let none : 0 ≡ in_units Lower f p = one_floor f 0 p (record { at_most = omega arith; next = rw h (omega arith) }) in
    subst (λ (n : ℕ). IsDown (first_digits Lower n p) f) none (zero_down (plain 0 (pos 0)) f refl refl (record { cross = rw h (omega arith) }))
none_rounded Upper f p h =
    let none : 0 ≡ in_units Upper f p = one_ceiling f 0 p (record { at_least = rw h (omega arith); least = λ k le. omega arith }) in
    subst (λ (n : ℕ). IsUp (first_digits Upper n p) f) none (zero_up (plain 0 (pos 0)) f refl refl (record { cross = rw h (omega arith) }))

pub is_rounded : (side : Side) (f : Ratio) → IsRounded side (rounded_decimal side f) f
unfolding rounded_decimal
is_rounded Lower f = elim (cases_lt 0 f.num) [ inl some ↦ (some_down f some).0 | inr none ↦ none_rounded Lower f (17 + den f) (omega (arith, none)) ]
is_rounded Upper f = elim (cases_lt 0 f.num) [ inl some ↦ some_up f some | inr none ↦ none_rounded Upper f (17 + den f) (omega (arith, none)) ]

pub rounded_positive : (f : Ratio) → 0 < f.num → 0 < (rounded_decimal Lower f).m
unfolding rounded_decimal
rounded_positive f some = (some_down f some).1

-- One decimal is nearest.
same_decimal : (r q : Sd) → IsSd r → IsSd q → Same (value r) (value q) → r ≡ q
same_decimal r q h k s = let (m, e) = one_decimal r q h k s in λ i. record { m = m i; e = e i }

pub one_rounded : (side : Side) (r : Sd) (f : Ratio) → IsRounded side r f → r ≡ rounded_decimal side f
one_rounded Lower r f h = let k = is_rounded Lower f in same_decimal r (rounded_decimal Lower f) h.decimal k.decimal
    (Same-both (k.greatest r h.decimal h.at_most) (h.greatest (rounded_decimal Lower f) k.decimal k.at_most))
one_rounded Upper r f h = let k = is_rounded Upper f in same_decimal r (rounded_decimal Upper f) h.decimal k.decimal
    (Same-both (h.least (rounded_decimal Upper f) k.decimal k.at_least) (k.least r h.decimal h.at_least))

pub rounded_is_nearest : RoundedIsNearest
rounded_is_nearest = record { nearest = is_rounded; one = one_rounded }
