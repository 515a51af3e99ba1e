-- A number that is read is in canonical form, and an integer has at most 18 digits.
use Rattle.array_text.proofs.Common.{◌≡◌, ◌⊎◌, inl, inr, ℕ, zero, suc, ◌+◌, ◌-◌, ◌*◌, ◌%◌, ◌^◌, ◌<◌, ◌≤◌, ◌==◌, Bool, true, false, nat_lt, nat_le, if◌then◌else◌, List, [], ◌∷◌, length, Option, Some}
use Rattle.array_text.proofs.Common.{None, Result, Ok, Err, refl, sym, subst, arith, ℤ, pos, negsuc, neg_ℤ, ◌+ℤ◌, ◌≤ℤ◌, ◌<ℤ◌, unsigned_abs, NumFault, IsDec, is_exponent, canonical, spelt_number}
use Rattle.array_text.proofs.Common.{number, product, integer, scaled_value, GivesOnly, real, multiplied_value, IsShort, ints, nat_tests, Dec, Spelling, AreDigits, IsInteger, number_from, IsTested}
use Rattle.array_text.proofs.Common.{IsCanonical, differ, canonical_is, integers_are, with_sign, spelling_of, WordsHaveForm, ok_gives_only, err_gives_only, then_}
use Rattle.decimal_input.specs.declared.dec.NumFault.TheVariants.{BadNumber}
use Rattle.decimal_input.proofs.{Powers.zero_number, Powers.one_digit_more_fits, Powers.power_fits_18_digits, Named.digit_small}

-- a word that is no number
abbrev number_fault : Result Dec NumFault
number_fault = Err BadNumber

in_range : (e : ℤ) → is_exponent e ≡ true → (neg_ℤ (pos 40) ≤ℤ e) × (e ≤ℤ pos 40)
in_range (pos n) h = let few : n ≤ 40 = grind (arith, nat_tests) in (omega (arith, ints), omega (arith, ints))
in_range (negsuc n) h = let few : n < 40 = grind (arith, nat_tests) in (omega (arith, ints), omega (arith, ints))

out_of_range : (e : ℤ) → is_exponent e ≡ false → (e <ℤ neg_ℤ (pos 40)) ⊎ (pos 40 <ℤ e)
out_of_range (pos n) h = let past : 40 < n = grind (arith, nat_tests) in inr (omega (arith, ints))
out_of_range (negsuc n) h = let past : 40 ≤ n = grind (arith, nat_tests) in inl (omega (arith, ints))

tested_is : (neg : Bool) (n : ℕ) (e : ℤ) (r : Result Dec NumFault) → 0 < n % 10 → IsTested neg n e r → GivesOnly IsDec r
tested_is neg n e r last t = by_digits (nat_lt n (10 ^ 18)) refl
  where
    by_exponent : n < 10 ^ 18 → (b : Bool) → is_exponent e ≡ b → GivesOnly IsDec r
    by_exponent few true h =
        let range = in_range e h in
        let some : 0 < n = omega (arith, last) in
        rw (t.good few range.0 range.1) (ok_gives_only (record { few = few; form = inr (some, last); above = range.0; below = range.1 }))
    by_exponent few false h = by_side (out_of_range e h)
      where
        by_side : (e <ℤ neg_ℤ (pos 40)) ⊎ (pos 40 <ℤ e) → GivesOnly IsDec r
        by_side (inl low) = rw (t.low few low) err_gives_only
        by_side (inr high) = rw (t.high few high) err_gives_only

    by_digits : (b : Bool) → nat_lt n (10 ^ 18) ≡ b → GivesOnly IsDec r
    by_digits true h = let few : n < 10 ^ 18 = grind (arith, nat_tests) in by_exponent few (is_exponent e) refl
    by_digits false h = let many : 10 ^ 18 ≤ n = grind (arith, nat_tests) in rw (t.many many) err_gives_only

canonical_form : (neg : Bool) (c : ℕ) (e : ℤ) (r : Result Dec NumFault) → IsCanonical neg c e r → GivesOnly IsDec r
canonical_form neg c e r (inl k) = rw k.1 (ok_gives_only zero_number)
canonical_form neg c e r (inr k) = tested_is neg k.0 (e +ℤ pos k.1) r k.2.last k.3

made_canonical : (neg : Bool) (c : ℕ) (e : ℤ) → GivesOnly IsDec (canonical neg c e)
made_canonical neg c e = canonical_form neg c e (canonical neg c e) (canonical_is neg c e)

pub number_is : (w : List ℕ) → GivesOnly IsDec (number w)
unfolding number
number_is w = by_length (nat_le (length w) 64)
  where
    by_spelling : (x : Option Spelling) → GivesOnly IsDec (spelt_number x)
    by_spelling None = err_gives_only
    by_spelling (Some n) = made_canonical n.neg n.coefficient n.exp

    by_length : (b : Bool) → GivesOnly IsDec (if b then spelt_number (spelling_of w) else number_fault)
    by_length true = by_spelling (spelling_of w)
    by_length false = err_gives_only

scaled_is : (by value : Dec) → IsDec value → GivesOnly IsDec (scaled_value by value)
unfolding scaled_value product
scaled_is by value good = by_case (by.digits == 0)
  where
    by_case : (b : Bool) → GivesOnly IsDec (if b then Ok value else product value by)
    by_case true = ok_gives_only good
    by_case false = made_canonical (differ value.neg by.neg) (value.digits * by.digits) (value.exp +ℤ by.exp)

pub multiplied_is : (by : Dec) (w : List ℕ) → GivesOnly IsDec (multiplied_value real by w)
unfolding multiplied_value
multiplied_is by w = then_ _ (number_is w) (λ d dec. scaled_is by d dec)

-- the digits of a number are below a power of ten
digits_below : (c i : ℕ) (xs : List ℕ) → c < 10 ^ i → AreDigits xs → number_from c xs < 10 ^ (i + length xs)
digits_below c i [] h all = let e : i ≡ i + 0 = omega arith in subst (λ n. c < 10 ^ n) e h
digits_below c i (x ∷ xs) h all =
    let small : x - 48 ≤ 9 = digit_small x (all 0 0 (omega arith)) in
    let rest = digits_below (c * 10 + (x - 48)) (i + 1) xs (one_digit_more_fits c (x - 48) i h small) (λ k d lt. all (suc k) d (omega (arith, lt))) in
    let e : (i + 1) + length xs ≡ i + suc (length xs) = omega arith in
    subst (λ n. number_from (c * 10 + (x - 48)) xs < 10 ^ n) e rest

signed_below : (neg : Bool) (n : ℕ) → n < 10 ^ 18 → unsigned_abs (with_sign neg n) < 10 ^ 18
signed_below false n h = omega (arith, h)
signed_below true zero h = omega arith
signed_below true (suc n) h = omega (arith, h)

pub integer_is : (w : List ℕ) → GivesOnly IsShort (integer w)
integer_is w = record {
  gives = λ z h.
      let i : IsInteger w z = (integers_are w z).0 h in
      let n : ℕ = number_from 0 i.digits in
      let below : n < 10 ^ (0 + length i.digits) = digits_below 0 0 i.digits (omega arith) i.are_digits in
      let few : 0 + length i.digits ≤ 18 = omega (arith, i.few) in
      record { few = subst (λ x. unsigned_abs x < 10 ^ 18) (sym i.value) (signed_below i.neg n (power_fits_18_digits n (0 + length i.digits) few below)) };
}

pub words_are : WordsHaveForm
words_are = record { numbers = number_is; integers = integer_is }
