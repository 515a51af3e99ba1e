use Rattle.decimal_input.proofs.Common.{◌≡◌, ℕ, ◌≤◌, inl, inr, ◌==◌, List, [], ◌∷◌, ◌++◌, length, take, drop, Bool, true, false, arith, refl, ap, ◌∙◌, ℤ, Some, ◌<◌, get_or, sym, ◌+◌, ◌&&◌, ◌-ℤ◌}
use Rattle.decimal_input.proofs.Common.{nat_le, pos, Option, None, eq-eqb, le-leb, cases_Bool, eqb-true, leb-true, and_parts, nat_tests, with_sign, is_digit, is_mark, number_from, AreDigits, IsSign}
use Rattle.decimal_input.proofs.Common.{IsPart, IsExponent, is_sign, is_negative, without_sign, digits_of, after_digits, digits_after_point, behind_part, whole_number, exponent_of, Spelling, spelling}
use Rattle.decimal_input.proofs.Common.{take-append-drop, get_or-take}
use Rattle.std.specs.List.{prefix_len}
use Rattle.std.proofs.{lemmas.List.Folds.prefix_len-append, lemmas.List.Folds.length-prefix_len, Math.Seq.take-append_seam, Math.Seq.drop-append_seam, lemmas.List.Sums.prefix_len_is}
use Rattle.std.proofs.{lemmas.List.Sums.prefix_len_passes}

-- n digits at the front, and no digit behind them
pub front_is : (xs : List ℕ) (n : ℕ) → n ≤ length xs → ((k : ℕ) → k < n → is_digit (get_or xs k 0) ≡ true) → (n < length xs → is_digit (get_or xs n 0) ≡ false) → prefix_len is_digit xs ≡ n
front_is xs n = prefix_len_is is_digit xs n 0

pub front_taken : (xs ys : List ℕ) (n : ℕ) → ys ≡ take n xs → prefix_len is_digit xs ≡ n → ys ≡ digits_of xs
front_taken xs ys n e h = e ∙ ap (λ (k : ℕ). take k xs) (sym h)

pub front_dropped : (xs ys : List ℕ) (n : ℕ) → ys ≡ drop n xs → prefix_len is_digit xs ≡ n → ys ≡ after_digits xs
front_dropped xs ys n e h = e ∙ ap (λ (k : ℕ). drop k xs) (sym h)

pub digits_len : (ds : List ℕ) → AreDigits ds → prefix_len is_digit ds ≡ length ds
digits_len ds all = front_is ds (length ds) (omega arith) (λ k h. all k 0 h) (λ h. absurd (omega (arith, h)))

pub front_len : (ds ys : List ℕ) → AreDigits ds → prefix_len is_digit ys ≡ 0 → prefix_len is_digit (ds ++ ys) ≡ length ds
front_len ds ys all h = prefix_len-append is_digit ds ys ∙ rw (digits_len ds all, eq-eqb (length ds) (length ds) refl, h) (omega arith)

-- digits with something else behind them are the digits at the front
pub digits_front : (ds ys : List ℕ) → AreDigits ds → prefix_len is_digit ys ≡ 0 → digits_of (ds ++ ys) ≡ ds
digits_front ds ys all h = ap (λ (k : ℕ). take k (ds ++ ys)) (front_len ds ys all h) ∙ take-append_seam ds ys

pub behind_front : (ds ys : List ℕ) → AreDigits ds → prefix_len is_digit ys ≡ 0 → after_digits (ds ++ ys) ≡ ys
behind_front ds ys all h = ap (λ (k : ℕ). drop k (ds ++ ys)) (front_len ds ys all h) ∙ drop-append_seam ds ys

abbrev pub HasNoSign : List ℕ → Type 0
HasNoSign bs = (is_negative bs ≡ false) × (without_sign bs ≡ bs)

digit_is_no_sign : (b : ℕ) → is_digit b ≡ true → ((b == 45) ≡ false) × (is_sign b ≡ false)
digit_is_no_sign b h = (grind (arith, nat_tests), grind (arith, nat_tests))

pub digit_first : (b : ℕ) (bs : List ℕ) → is_digit b ≡ true → HasNoSign (b ∷ bs)
digit_first b bs h = let k = digit_is_no_sign b h in (k.0, rw k.1 refl)

-- a sign in front is read as what it says
pub sign_read : (neg : Bool) (s rest : List ℕ) → IsSign neg s → HasNoSign rest → (is_negative (s ++ rest) ≡ neg) × (without_sign (s ++ rest) ≡ rest)
sign_read neg s rest (inl (n, e)) h = rw (e, n) (refl, refl)
sign_read neg s rest (inr (n, inl e)) h = rw (e, n) (refl, refl)
sign_read neg s rest (inr (n, inr e)) h = rw (e, n) h

mark_is_no_digit : (b : ℕ) → is_mark b ≡ true → (is_digit b ≡ false) × ((b == 46) ≡ false)
mark_is_no_digit b h = (grind (arith, nat_tests), grind (arith, nat_tests))

-- an exponent begins with no digit and with no point
pub exponent_first : (e : ℤ) (t : List ℕ) → IsExponent e t → (prefix_len is_digit t ≡ 0) × ((digits_after_point t ≡ []) × (behind_part t ≡ t))
exponent_first e t (inl m) = let k = mark_is_no_digit m.mark m.is_mark_byte in rw m.cut (rw k.0 refl, (rw k.1 refl, rw k.1 refl))
exponent_first e t (inr (h, _)) = rw h (refl, (refl, refl))

pub whole_read : (neg : Bool) (ds : List ℕ) → AreDigits ds → 1 ≤ length ds → whole_number neg ds ≡ Some (with_sign neg (number_from 0 ds))
whole_read neg ds all h = rw (digits_len ds all, le-leb 1 (length ds) h, le-leb (length ds) (length ds) (omega arith)) refl

-- an exponent is read as what it says
pub exponent_read : (e : ℤ) (t : List ℕ) → IsExponent e t → exponent_of t ≡ Some e
exponent_read e t (inl m) =
    let none : HasNoSign m.digits = none_of m.digits m.are_digits m.some in
    let k = sign_read m.neg m.sign m.digits m.is_sign none in
    rw (m.cut, m.is_mark_byte, k.0, k.1, m.value) (whole_read m.neg m.digits m.are_digits m.some)
  where
    none_of : (ds : List ℕ) → AreDigits ds → 1 ≤ length ds → HasNoSign ds
    none_of [] all h = absurd (omega (arith, h))
    none_of (b ∷ ds) all h = digit_first b ds (all 0 0 (omega arith))
exponent_read e t (inr (h, k)) = rw (h, k) refl

-- a point and its digits are read as what they say
pub part_read : (p pt t : List ℕ) (e : ℤ) → IsPart p pt → IsExponent e t → (prefix_len is_digit (pt ++ t) ≡ 0) × ((digits_after_point (pt ++ t) ≡ p) × (behind_part (pt ++ t) ≡ t))
part_read p pt t e (inl (h, all)) x = let k = exponent_first e t x in rw h (refl, (digits_front p t all k.0, behind_front p t all k.0))
part_read p pt t e (inr (h, g)) x = rw (h, g) (exponent_first e t x)

-- what split the word at its sign
pub sign_cut : (w : List ℕ) → (s : List ℕ) × IsSign (is_negative w) s × (w ≡ s ++ without_sign w)
sign_cut [] = ([], inr (refl, inr refl), refl)
sign_cut (b ∷ bs) = elim (cases_Bool (b == 45)) [
  | inl h ↦ let e : b ≡ 45 = eqb-true b 45 h in rw e (45 ∷ [], inl (refl, refl), refl)
  | inr h ↦ elim (cases_Bool (b == 43)) [
    | inl k ↦ let e : b ≡ 43 = eqb-true b 43 k in rw e (43 ∷ [], inr (refl, inl refl), refl)
    | inr k ↦ rw (h, k) ([], inr (refl, inr refl), refl)
  ]
]

pub front_digits : (bs : List ℕ) → AreDigits (digits_of bs)
front_digits bs k d h = grind (arith, length-prefix_len, get_or-take, prefix_len_passes)

pub front_cut : (bs : List ℕ) → digits_of bs ++ after_digits bs ≡ bs
front_cut bs = take-append-drop (prefix_len is_digit bs) bs

-- what split the tail at its point
pub part_cut : (t : List ℕ) → (pt : List ℕ) × IsPart (digits_after_point t) pt × (t ≡ pt ++ behind_part t)
part_cut [] = ([], inr (refl, refl), refl)
part_cut (b ∷ bs) = elim (cases_Bool (b == 46)) [
  | inl h ↦ let e : b ≡ 46 = eqb-true b 46 h in rw e (46 ∷ digits_of bs, inl (refl, front_digits bs), ap (λ (xs : List ℕ). 46 ∷ xs) (sym (front_cut bs)))
  | inr h ↦ rw h ([], inr (refl, refl), refl)
]

pub some_is : {A : Type 0} (x y : A) → Some x ≡ Some y → x ≡ y
some_is x y e = cc

pub whole_cut : (neg : Bool) (bs : List ℕ) (e : ℤ) → whole_number neg bs ≡ Some e → AreDigits bs × ((1 ≤ length bs) × (e ≡ with_sign neg (number_from 0 bs)))
whole_cut neg bs e h = elim (cases_Bool (nat_le 1 (length bs) && nat_le (length bs) (prefix_len is_digit bs))) [
  | inl t ↦ (let k = and_parts _ _ t in
      let all : length bs ≤ prefix_len is_digit bs = leb-true _ _ k.1 in
      (λ i d lt. prefix_len_passes is_digit bs i d (omega (arith, lt, all)), (leb-true _ _ k.0, sym (some_is _ _ (rw t at h)))))
  | inr t ↦ absurd (let k : None ≡ Some e = rw t at h in cc)
]

-- what the exponent's bytes say
pub exponent_cut : (t : List ℕ) (e : ℤ) → exponent_of t ≡ Some e → IsExponent e t
exponent_cut [] e h = inr (refl, sym (some_is _ _ h))
exponent_cut (b ∷ bs) e h = elim (cases_Bool (is_mark b)) [
  | inl k ↦ (let (s, signed, cut) = sign_cut bs in
      let w = whole_cut (is_negative bs) (without_sign bs) e (rw k at h) in
      inl (record {
        mark = b;
        neg = is_negative bs;
        sign = s;
        digits = without_sign bs;
        cut = ap (λ (xs : List ℕ). b ∷ xs) cut;
        is_mark_byte = k;
        is_sign =
            signed;
        are_digits = w.0;
        some = w.1.0;
        value = w.1.1;
      }))
  | inr k ↦ absurd (let n : None ≡ Some e = rw k at h in cc)
]

pub spelling_cut : (neg : Bool) (whole part : List ℕ) (X : Option ℤ) (n : Spelling) → spelling neg whole part X ≡ Some n → (e : ℤ) × (X ≡ Some e) ×
    (1 ≤ length whole + length part) × (n ≡ record { neg = neg; coefficient = number_from (number_from 0 whole) part; exp = e -ℤ pos (length part) })
spelling_cut neg whole part None n h = absurd cc
spelling_cut neg whole part (Some e) n h = grind (arith, cases_Bool, nat_le, leb-true, some_is)
