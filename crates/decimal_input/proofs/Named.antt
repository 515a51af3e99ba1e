use Rattle.decimal_input.proofs.Common.{nat_le, ◌≡◌, ℕ, suc, ◌+◌, ◌-◌, ◌*◌, ◌<◌, ◌≤◌, ◌^◌, inl, inr, refl, ap, sym, subst, ◌∙◌, arith, Bool, true, false, List, [], ◌∷◌, length, get_or, min, Option}
use Rattle.decimal_input.proofs.Common.{Some, None, Result, Err, ℤ, pos, neg_ℤ, ◌+ℤ◌, ◌-ℤ◌, ints, cases_lt, le-leb, nat_tests, pow-add, mul-le-mul_left, mul-le-mul_right, pow-suc, Dec, NumFault}
use Rattle.decimal_input.proofs.Common.{BadNumber, is_negative, without_sign, digits_of, after_digits, digits_after_point, behind_part, exponent_of, spelling, spelling_of, is_digit, number_from}
use Rattle.decimal_input.proofs.Common.{Spelling, with_sign, IsCap, IsCapped, IsOf, IsTrimmed, IsTested, IsCanonical}
use Rattle.decimal_input.proofs.Powers.{ten_pos}

-- r is the canonical form of a reading, or its refusal
abbrev pub IsNumber : Option Spelling → Result Dec NumFault → Type 0
IsNumber None r = r ≡ Err BadNumber
IsNumber (Some n) r = IsCanonical n.neg n.coefficient n.exp r

pub digit_small : (x : ℕ) → is_digit x ≡ true → x - 48 ≤ 9
digit_small x h = grind (arith, nat_tests)

-- digits stand for less than a power of ten
number_below : (c : ℕ) (xs : List ℕ) → ((i : ℕ) → i < length xs → is_digit (get_or xs i 0) ≡ true) → number_from c xs + 1 ≤ (c + 1) * 10 ^ length xs
number_below c [] all = omega arith
number_below c (x ∷ xs) all =
    let small : x - 48 ≤ 9 = digit_small x (all 0 (omega arith)) in
    let rest = number_below (c * 10 + (x - 48)) xs (λ i h. all (suc i) (omega arith)) in
    let grow : (c * 10 + (x - 48) + 1) * 10 ^ length xs ≤ ((c + 1) * 10) * 10 ^ length xs = mul-le-mul_right (10 ^ length xs) (omega arith) in
    rw (pow-suc 10 (length xs)) (omega (arith, rest, grow))

few_zeros : (c d z n : ℕ) → IsTrimmed c d z → c < 10 ^ n → z < n
few_zeros c d z n h lt = elim (cases_lt z n) [
  | inl k ↦ k
  | inr k ↦ absurd (past (z - n) (omega arith))
]
  where
    some : 1 ≤ d
    some = omega (arith, h.last)

    past : (j : ℕ) → z ≡ n + j → ⊥
    past j e =
        let split : 10 ^ z ≡ 10 ^ n * 10 ^ j = rw e (pow-add 10 n j) in
        let least : 1 * 10 ^ z ≤ d * 10 ^ z = mul-le-mul_right (10 ^ z) some in
        omega (arith, split, least, h.whole, lt, mul-le-mul_left (10 ^ n) (ten_pos j))

-- past the cap both exponents are out of range
capped : (neg sign : Bool) (d n z len : ℕ) (e f : ℤ) (r : Result Dec NumFault) → z < 64 → len ≤ 64 → f ≡ with_sign sign n → e ≡ with_sign sign (min n 10000) →
    IsTested neg d (e -ℤ pos len +ℤ pos z) r → IsTested neg d (f -ℤ pos len +ℤ pos z) r
capped neg sign d n z len e f r hz hl hf he t = elim (cases_lt n 10000) [
  | inl k ↦ (let same : e ≡ f = he ∙ ap (with_sign sign) (less k) ∙ sym hf in let Q : ℤ → Type 0 = λ g. IsTested neg d (g -ℤ pos len +ℤ pos z) r in subst Q same t)
  | inr k ↦ past sign k hf he
]
  where
    less : n < 10000 → min n 10000 ≡ n
    less k = omega arith

    past : (sign : Bool) → 10000 ≤ n → f ≡ with_sign sign n → e ≡ with_sign sign (min n 10000) → IsTested neg d (f -ℤ pos len +ℤ pos z) r
    past true k hf he =
        let e_is : e ≡ neg_ℤ (pos 10000) = he ∙ ap (λ (m : ℕ). neg_ℤ (pos m)) (all k) in
        record { many = t.many; low = λ few _. t.low few (omega (arith, ints)); high = λ few h. absurd (omega (arith, ints)); good = λ few h _. absurd (omega (arith, ints)) }
      where
        all : 10000 ≤ n → min n 10000 ≡ 10000
        all k = omega arith
    past false k hf he =
        let e_is : e ≡ pos 10000 = he ∙ ap (λ (m : ℕ). pos m) (all k) in
        record { many = t.many; low = λ few h. absurd (omega (arith, ints)); high = λ few _. t.high few (omega (arith, ints)); good = λ few _ h. absurd (omega (arith, ints)) }
      where
        all : 10000 ≤ n → min n 10000 ≡ 10000
        all k = omega arith

canonical_capped : (neg : Bool) (c len : ℕ) (e f : ℤ) (r : Result Dec NumFault) → c < 10 ^ 64 → len ≤ 64 → IsCap e f → IsCanonical neg c (e -ℤ pos len) r → IsCanonical neg c (f -ℤ pos len) r
canonical_capped neg c len e f r hc hl cap (inl h) = inl h
canonical_capped neg c len e f r hc hl cap (inr (d, z, h, t)) =
    inr (d, z, h, capped neg cap.is.0 d cap.is.1 z len e f r (few_zeros c d z 64 h hc) hl cap.is.2 cap.is.3 t)

pub coefficient_below : (whole part : List ℕ) → length whole + length part ≤ 64 → ((i : ℕ) → i < length whole → is_digit (get_or whole i 0) ≡ true) →
    ((i : ℕ) → i < length part → is_digit (get_or part i 0) ≡ true) → number_from (number_from 0 whole) part < 10 ^ 64
coefficient_below whole part h aw ap_ =
    let w = number_below 0 whole aw in
    let p = number_below (number_from 0 whole) part ap_ in
    let m : (number_from 0 whole + 1) * 10 ^ length part ≤ (1 * 10 ^ length whole) * 10 ^ length part = mul-le-mul_right (10 ^ length part) (omega (arith, w)) in
    below (length whole) (length part) h (omega (arith, p, m))
  where
    below : (a b : ℕ) → a + b ≤ 64 → number_from (number_from 0 whole) part + 1 ≤ 10 ^ a * 10 ^ b → number_from (number_from 0 whole) part < 10 ^ 64
    below a b h le =
        let e : (a + b) + (64 - (a + b)) ≡ 64 = omega arith in
        let P : ℕ → Type 0 = λ n. 10 ^ (a + b) ≤ 10 ^ n in
        let more : 10 ^ (a + b) ≤ 10 ^ 64 = subst P e (rw (pow-add 10 (a + b) (64 - (a + b))) (omega (arith, mul-le-mul_left (10 ^ (a + b)) (ten_pos (64 - (a + b)))))) in
        omega (arith, pow-add 10 a b, le, more)

pub named : (neg : Bool) (whole part : List ℕ) (X : Option ℤ) (e : ℤ) (r : Result Dec NumFault) → length whole + length part ≤ 64 →
    ((i : ℕ) → i < length whole → is_digit (get_or whole i 0) ≡ true) → ((i : ℕ) → i < length part → is_digit (get_or part i 0) ≡ true) →
    1 ≤ length whole + length part → IsCapped (Some e) X → IsCanonical neg (number_from (number_from 0 whole) part) (e -ℤ pos (length part)) r → IsNumber (spelling neg whole part X) r
named neg whole part None e r h aw ap_ some near can = absurd near
named neg whole part (Some f) e r h aw ap_ some near can =
    let ok : nat_le 1 (length whole + length part) ≡ true = le-leb 1 (length whole + length part) some in
    rw ok (canonical_capped neg (number_from (number_from 0 whole) part) (length part) e f r (coefficient_below whole part h aw ap_) (omega arith) near can)

pub spelling_is_of_parts : (w body whole tail part rest : List ℕ) (neg : Bool) → neg ≡ is_negative w → body ≡ without_sign w → whole ≡ digits_of body → tail ≡
    after_digits body → part ≡ digits_after_point tail → rest ≡ behind_part tail → spelling neg whole part (exponent_of rest) ≡ spelling_of w
spelling_is_of_parts w body whole tail part rest neg e₁ e₂ e₃ e₄ e₅ e₆ = rw (e₆, e₅, e₃, e₄, e₂, e₁) refl

-- no digits yet
pub start : IsOf (record { digits = 0; zeros = 0; many = false }) 0
start = inr (inl (refl, (refl, refl)))

pub canonical_at : (neg : Bool) (n : ℕ) (g e : ℤ) (r : Result Dec NumFault) → g ≡ e → IsCanonical neg n g r → IsCanonical neg n e r
canonical_at neg n g e r h can = let Q : ℤ → Type 0 = λ x. IsCanonical neg n x r in subst Q h can
