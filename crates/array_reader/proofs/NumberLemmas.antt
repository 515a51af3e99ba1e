-- The functions of specs/Numbers are what words and products name.
use Rattle.array_reader.proofs.Common.{◌≡◌, ℕ, zero, suc, ◌<◌, ◌≤◌, ◌+◌, ◌*◌, ◌/◌, ◌%◌, ◌^◌, ◌==◌, Bool, true, false, if◌then◌else◌, List, length, nat_le, nat_lt, Option, Some, None, Result, Ok, Err}
use Rattle.array_reader.proofs.Common.{ap, ℤ, pos, negsuc, neg_ℤ, ◌+ℤ◌, ◌≤ℤ◌, ◌<ℤ◌, ◌↔◌, inl, inr, refl, sym, ◌∙◌, arith, pow-suc, add-one, NumFault, significant, zeros, is_exponent, number_or_fault}
use Rattle.array_reader.proofs.Common.{canonical, spelt_number, number, product, integer, or_bad, IsGoodName, is_good_name, IsRefusal, name_at, StopsText, TextFault, Refused, Memory}
use Rattle.outside.specs.declared.codes.Code.TheVariants.{BadName}
use Rattle.std.proofs.{lemmas.Int.ints, lemmas.Bool.Decides.nat_tests}
use Rattle.decimal_input.specs.{declared.dec.Dec.Dec, Spelling, IsInteger, spelling_of, integer_of, IsTrimmed, IsTested, IsCanonical, Names, differ}
use Rattle.decimal_input.proofs.{Named.IsNumber, Spelled.names_read, Spelled.long_names, Spelled.reads_integer, Spelled.integer_read, Unique.names_one, Unique.canonical_one}
use Rattle.outside.proofs.NameTests.{is_good, is_taken}

tens : (n c : ℕ) → c % 10 ≡ 0 → IsTrimmed (c / 10) (significant n (c / 10)) (zeros n (c / 10)) → IsTrimmed c (significant n (c / 10)) (zeros n (c / 10) + 1)
tens n c e t =
    let power : 10 ^ (zeros n (c / 10) + 1) ≡ 10 ^ zeros n (c / 10) * 10 = rw (add-one, pow-suc) refl in
    record { whole = rw power (whole (significant n (c / 10)) (10 ^ zeros n (c / 10)) t.whole); last = t.last }
  where
    whole : (d p : ℕ) → c / 10 ≡ d * p → c ≡ d * (p * 10)
    whole d p h = omega (arith, e, h)

trims_step : (n c : ℕ) → 0 < c → c ≤ suc n → (0 < c / 10 → c / 10 ≤ n → IsTrimmed (c / 10) (significant n (c / 10)) (zeros n (c / 10))) → (b : Bool) → (c % 10 == 0) ≡ b
    → IsTrimmed c (if b then significant n (c / 10) else c) (if b then zeros n (c / 10) + 1 else 0)
trims_step n c some le rest true e = grind (arith, nat_tests, tens)
trims_step n c some le rest false e = grind (arith, nat_tests)

trims : (n c : ℕ) → 0 < c → c ≤ n → IsTrimmed c (significant n c) (zeros n c)
unfolding significant zeros
trims zero c some le = absurd (omega arith)
trims (suc n) c some le = trims_step n c some le (trims n (c / 10)) (c % 10 == 0) refl

too_low : (e : ℤ) → e <ℤ neg_ℤ (pos 40) → is_exponent e ≡ false
too_low (pos n) h = absurd (omega (arith, ints))
too_low (negsuc n) h = let past : 40 ≤ n = omega (arith, ints) in grind (arith, nat_tests)

too_high : (e : ℤ) → pos 40 <ℤ e → is_exponent e ≡ false
too_high (pos n) h = let past : 40 < n = omega (arith, ints) in grind (arith, nat_tests)
too_high (negsuc n) h = absurd (omega (arith, ints))

in_range : (e : ℤ) → neg_ℤ (pos 40) ≤ℤ e → e ≤ℤ pos 40 → is_exponent e ≡ true
in_range (pos n) low high = let within : n ≤ 40 = omega (arith, ints) in grind (arith, nat_tests)
in_range (negsuc n) low high = let within : n < 40 = omega (arith, ints) in grind (arith, nat_tests)

tests : (neg : Bool) (d : ℕ) (e : ℤ) → IsTested neg d e (number_or_fault neg d e)
tests neg d e = grind (arith, nat_lt, nat_tests, too_low, too_high, in_range)

canonical_some : (neg : Bool) (c : ℕ) (e : ℤ) → 0 < c → IsCanonical neg c e (canonical neg c e)
unfolding canonical
canonical_some neg c e some =
    let no : (c == 0) ≡ false = grind (arith, nat_tests) in
    rw no (inr (significant c c, zeros c c, trims c c some (omega arith), tests neg _ _))

pub canonical_is : (neg : Bool) (c : ℕ) (e : ℤ) → IsCanonical neg c e (canonical neg c e)
unfolding canonical
canonical_is neg zero e = inl (refl, refl)
canonical_is neg (suc c) e = canonical_some neg (suc c) e (omega arith)

is_number : (x : Option Spelling) → IsNumber x (spelt_number x)
is_number None = refl
is_number (Some n) = canonical_is n.neg n.coefficient n.exp

names_number : (w : List ℕ) → Names w (number w)
unfolding number
names_number w = cases (nat_le (length w) 64) refl
  where
    cases : (b : Bool) → nat_le (length w) 64 ≡ b → Names w (number w)
    cases true e = rw e (names_read w (spelt_number (spelling_of w)) (grind (arith, nat_tests)) (is_number (spelling_of w)))
    cases false e = rw e (long_names w (grind (arith, nat_tests)))

-- what a word names is its number
pub is_word_number : (w : List ℕ) (r : Result Dec NumFault) → Names w r → r ≡ number w
is_word_number w r h = names_one w r (number w) h (names_number w)

pub is_product : (a b : Dec) (r : Result Dec NumFault) → IsCanonical (differ a.neg b.neg) (a.digits * b.digits) (a.exp +ℤ b.exp) r → r ≡ product a b
unfolding product
is_product a b r h = canonical_one _ _ _ r _ h (canonical_is (differ a.neg b.neg) (a.digits * b.digits) (a.exp +ℤ b.exp))

pub is_integer : (w : List ℕ) (r : Option ℤ) → ((z : ℤ) → (r ≡ Some z) ↔ IsInteger w z) → r ≡ integer_of w
is_integer w r h = cases (integer_of w) refl r refl
  where
    cases : (x : Option ℤ) → integer_of w ≡ x → (y : Option ℤ) → r ≡ y → r ≡ integer_of w
    cases (Some z) e y f = (h z).1 (integer_read w z e) ∙ sym e
    cases None e None f = f ∙ sym e
    cases None e (Some z) f = absurd (let some : None ≡ Some z = sym e ∙ reads_integer w z ((h z).0 f) in cc)

abbrev some_of : {X E : Type 0} → Result X E → Option X
some_of (Ok x) = Some x
some_of (Err e) = None

pub integers_are : (w : List ℕ) (z : ℤ) → (integer w ≡ Ok z) ↔ IsInteger w z
unfolding integer
integers_are w z = (λ e. by_word (integer_of w) refl e, λ h. rw (reads_integer w z h) refl)
  where
    by_word : (o : Option ℤ) → integer_of w ≡ o → or_bad o ≡ Ok z → IsInteger w z
    by_word None f e = cc
    by_word (Some y) f e = let same : Some y ≡ Some z = ap some_of e in integer_read w z (f ∙ same)

pub numbers_are : (w : List ℕ) (r : Result Dec NumFault) → (number w ≡ r) ↔ Names w r
numbers_are w r = (λ e. rw (← e) (names_number w), λ h. sym (is_word_number w r h))

product_is : (a b : Dec) → IsCanonical (differ a.neg b.neg) (a.digits * b.digits) (a.exp +ℤ b.exp) (product a b)
unfolding product
product_is a b = canonical_is (differ a.neg b.neg) (a.digits * b.digits) (a.exp +ℤ b.exp)

pub products_are : (a b : Dec) (r : Result Dec NumFault) → (product a b ≡ r) ↔ IsCanonical (differ a.neg b.neg) (a.digits * b.digits) (a.exp +ℤ b.exp) r
products_are a b r = (λ e. rw (← e) (product_is a b), λ h. sym (is_product a b r h))

-- A word as a file's name.
is_refused : (bs : List ℕ) → (IsGoodName bs → ⊥) → is_good_name bs ≡ false
is_refused bs h = grind (arith, is_good)

pub name_taken : (file : List ℕ) (line : ℕ) (name text : List ℕ) → (text ≡ name) × IsGoodName name → name_at file line name ≡ Ok text
unfolding name_at
name_taken file line name text h = rw (h.0, is_taken name h.1) refl

pub name_refused : (file : List ℕ) (line : ℕ) (name : List ℕ) (fault : TextFault) → (IsGoodName name → ⊥) → IsRefusal BadName file line fault → StopsText fault (name_at file line name)
unfolding name_at
name_refused file line name (Refused r) h is = rw (is, is_refused name h) refl
name_refused file line name Memory h is = tt
