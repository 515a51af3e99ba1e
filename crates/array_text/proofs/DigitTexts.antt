-- The decimal digits of a number spell it, and so do those of an integer.
use Rattle.array_text.proofs.Common.{◌≡◌, ℕ, suc, ◌+◌, ◌-◌, ◌*◌, ◌/◌, ◌%◌, ◌^◌, ◌<◌, ◌≤◌, true, false, inl, inr, List, [], ◌∷◌, ◌++◌, length, refl, sym, ap, ◌∙◌, arith, ℤ, pos, negsuc, neg_ℤ}
use Rattle.array_text.proofs.Common.{unsigned_abs, decimal, signed_decimal, length_push, All-push, nat_tests, is_digit, number_from, AreDigits, IsInteger, number_append}
use Rattle.std.proofs.lemmas.Fmt.{decimal_by_steps, length-decimal-le}

-- at least one digit, which spell n
pub record AreDigitsOf (n : ℕ) (ds : List ℕ) : Type 0 where
  pub digits : AreDigits ds
  pub some : 1 ≤ length ds
  pub value : number_from 0 ds ≡ n

digit_byte : (n : ℕ) → n < 10 → is_digit (48 + n) ≡ true
digit_byte n h = grind (arith, nat_tests)

one_digit : (n : ℕ) → n < 10 → AreDigitsOf n ((48 + n) ∷ [])
one_digit n h = grind (arith, digit_byte)

one_more_digit : (n : ℕ) (ds : List ℕ) → 10 ≤ n → AreDigitsOf (n / 10) ds → AreDigitsOf n (ds ++ ((48 + n % 10) ∷ []))
one_more_digit n ds h s = record {
  digits = All-push (λ b. is_digit b ≡ true) ds (48 + n % 10) s.digits (digit_byte (n % 10) (omega arith));
  some = omega (arith, length_push ds (48 + n % 10));
  value = number_append 0 ds ((48 + n % 10) ∷ []) ∙ last (number_from 0 ds) s.value;
}
  where
    last : (c : ℕ) → c ≡ n / 10 → c * 10 + ((48 + n % 10) - 48) ≡ n
    last c e = omega arith

pub digits_spell : (n : ℕ) → n < 10 ^ 18 → AreDigitsOf n (decimal n)
digits_spell n h = decimal_by_steps (λ m ds. AreDigitsOf m ds) one_digit one_more_digit n (omega arith)

pub few_digits : (n : ℕ) → n < 10 ^ 18 → length (decimal n) ≤ 18
few_digits n h = length-decimal-le 18 n (omega arith) h (omega arith)

-- an integer of at most 18 digits is what its digits and its sign say
pub integer_spells : (z : ℤ) → unsigned_abs z < 10 ^ 18 → IsInteger (signed_decimal z) z
integer_spells (pos n) h =
    let s = digits_spell n h in
    record {
      neg = false;
      sign = [];
      digits = decimal n;
      cut = refl;
      is_sign = inr (refl, inr refl);
      are_digits = s.digits;
      some = s.some;
      few = few_digits n h;
      value = ap (λ (k : ℕ). pos k) (sym s.value);
    }
integer_spells (negsuc n) h =
    let s = digits_spell (suc n) h in
    record {
      neg = true;
      sign = 45 ∷ [];
      digits = decimal (suc n);
      cut = refl;
      is_sign = inl (refl, refl);
      are_digits = s.digits;
      some = s.some;
      few = few_digits (suc n) h;
      value = ap (λ (k : ℕ). neg_ℤ (pos k)) (sym s.value);
    }

pub few_bytes : (z : ℤ) → unsigned_abs z < 10 ^ 18 → length (signed_decimal z) ≤ 19
few_bytes (pos n) h = omega (arith, few_digits n h)
few_bytes (negsuc n) h = omega (arith, few_digits (suc n) h)
