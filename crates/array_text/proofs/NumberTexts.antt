-- The word of a number is read as that number, also where it is multiplied by 1.
use Rattle.array_text.proofs.Common.{◌≡◌, ℕ, ◌*◌, ◌^◌, ◌<◌, ◌≤◌, Bool, true, false, inl, inr, List, [], ◌∷◌, ◌++◌, length, Ok, refl, sym, ap, ◌∙◌, arith, ℤ, pos, negsuc, neg_ℤ, ◌+ℤ◌, ◌-ℤ◌, ◌≤ℤ◌}
use Rattle.array_text.proofs.Common.{unsigned_abs, decimal, signed_decimal, append-nil, length-append, ints, Dec, IsDec, number_from, IsSign, IsExponent, Spells, names_read, reads_spelt, number}
use Rattle.array_text.proofs.Common.{integer, product, sign, number_word, integer_word, IsShort, IsTested, IsCanonical, differ, is_word_number, is_product, integers_are, WordsReadAsWritten}
use Rattle.array_text.proofs.DigitTexts.{digits_spell, few_digits, integer_spells, few_bytes}

is_sign : (neg : Bool) → IsSign neg (sign neg)
is_sign true = inl (refl, refl)
is_sign false = inr (refl, inr refl)

sign_length : (neg : Bool) → length (sign neg) ≤ 1
sign_length true = omega arith
sign_length false = omega arith

pub short_exponent : (e : ℤ) → neg_ℤ (pos 40) ≤ℤ e → e ≤ℤ pos 40 → unsigned_abs e < 10 ^ 18
short_exponent (pos n) low high = let few : n ≤ 40 = omega (arith, ints) in omega arith
short_exponent (negsuc n) low high = let few : n < 40 = omega (arith, ints) in omega arith

exponent_spells : (e : ℤ) → unsigned_abs e < 10 ^ 18 → IsExponent e (69 ∷ signed_decimal e)
exponent_spells e h =
    let i = integer_spells e h in
    inl (record {
      mark = 69;
      neg = i.neg;
      sign = i.sign;
      digits = i.digits;
      cut = ap (λ (t : List ℕ). 69 ∷ t) i.cut;
      is_mark_byte = refl;
      is_sign = i.is_sign;
      are_digits = i.are_digits;
      some = i.some;
      value = i.value;
    })

no_part : (z : ℤ) → z ≡ z -ℤ pos 0
no_part z = omega (arith, ints)

number_spells : (d : Dec) → IsDec d → Spells (number_word d) (record { neg = d.neg; coefficient = d.digits; exp = d.exp })
unfolding number_word
number_spells d h =
    let s = digits_spell d.digits h.few in
    record {
      sign = sign d.neg;
      whole = decimal d.digits;
      part = [];
      point = [];
      behind = 69 ∷ signed_decimal d.exp;
      power = d.exp;
      cut = refl;
      is_sign = is_sign d.neg;
      are_digits = s.digits;
      is_part = inr (refl, refl);
      some = omega (arith, s.some);
      is_exponent = exponent_spells d.exp (short_exponent d.exp h.above h.below);
      coefficient = sym (ap (λ (ds : List ℕ). number_from 0 ds) (append-nil (decimal d.digits)) ∙ s.value);
      exp = no_part d.exp;
    }

number_length : (d : Dec) → IsDec d → length (number_word d) ≤ 64
unfolding number_word
number_length d h =
    let a = sign_length d.neg in
    let b = few_digits d.digits h.few in
    let c = few_bytes d.exp (short_exponent d.exp h.above h.below) in
    let e = length-append (sign d.neg) (decimal d.digits ++ (69 ∷ signed_decimal d.exp)) in
    let f = length-append (decimal d.digits) (69 ∷ signed_decimal d.exp) in
    omega arith

same_number : (d : Dec) (n : Bool) (c : ℕ) (e : ℤ) → d.neg ≡ n → d.digits ≡ c → d.exp ≡ e → d ≡ record { neg = n; digits = c; exp = e }
same_number d n c e p q r = rw (← p, ← q, ← r) refl

is_tested : (d : Dec) (e : ℤ) → e ≡ d.exp → IsDec d → IsTested d.neg d.digits e (Ok d)
is_tested d e same h = grind (arith)

-- a canonical number is the canonical form of itself
pub is_itself : (d : Dec) (c : ℕ) (e : ℤ) → c ≡ d.digits → e ≡ d.exp → IsDec d → IsCanonical d.neg c e (Ok d)
is_itself d c e p q h = grind (arith, same_number, is_tested)

pub number_reads : (d : Dec) → IsDec d → number (number_word d) ≡ Ok d
number_reads d h =
    let spelt = reads_spelt (number_word d) _ (number_spells d h) in
    sym (is_word_number (number_word d) (Ok d) (names_read (number_word d) (Ok d) (number_length d h) (rw spelt (is_itself d d.digits d.exp refl refl h))))

pub integer_reads : (z : ℤ) → IsShort z → integer (integer_word z) ≡ Ok z
unfolding integer_word
integer_reads z h = (integers_are (signed_decimal z) z).1 (integer_spells z h.few)

pub words_read : WordsReadAsWritten
words_read = record { numbers = number_reads; integers = integer_reads }

abbrev pub one : Dec
one = record { neg = false; digits = 1; exp = pos 0 }

sign_stays : (neg : Bool) → differ neg false ≡ neg
sign_stays true = refl
sign_stays false = refl

-- a number times 1
pub times_one : (d : Dec) → IsDec d → product d one ≡ Ok d
times_one d h = sym (is_product d one (Ok d) (rw sign_stays (is_itself d (d.digits * 1) (d.exp +ℤ pos 0) (omega arith) (omega (arith, ints)) h)))
