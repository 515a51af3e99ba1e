-- The digits of a text with a point write its number.
use Rattle.listing_io.proofs.Common.{◌≡◌, ℕ, zero, suc, ◌+◌, ◌-◌, ◌*◌, ◌/◌, ◌%◌, ◌^◌, ◌<◌, ◌≤◌, true, false, List, [], ◌∷◌, ◌++◌, length, replicate, get_or, drop, drop-cons, codes, decimal, nat_abs}
use Rattle.listing_io.proofs.Common.{nat_le, refl, sym, ap, ◌∙◌, arith, ℤ, pos, negsuc, add-one, pow-suc, nat_tests, decimal_is_IsNumeral_wide, length-decimal-le_wide, append_assoc, drop_all}
use Rattle.listing_io.proofs.Common.{AllDigits, digits_value_after, fixed_text, padded_digits, with_byte, digits_behind, is_negative, value_of, ten_pos}
use Rattle.std.specs.Char.{digit_value}
use Rattle.std.proofs.lemmas.Nat.{pow-add, mod_below}

pub behind_append : (n : ℕ) (xs ys : List ℕ) → digits_behind n (xs ++ ys) ≡ digits_behind (digits_behind n xs) ys
unfolding digits_behind
behind_append n [] ys = refl
behind_append n (x ∷ xs) ys = behind_append (with_byte n x) xs ys

pub is_digit : (c : ℕ) → digit_value c < 10 → (48 ≤ c) × (c ≤ 57) × (digit_value c ≡ c - 48)
is_digit c h = (grind (arith, nat_tests), grind (arith, nat_tests), grind (arith, nat_tests))

one_digit : (n c : ℕ) → digit_value c < 10 → with_byte n c ≡ n * 10 + digit_value c
one_digit n c h = grind (arith, is_digit, nat_le, nat_tests)

pub behind_digits : (n : ℕ) (ds : List ℕ) → AllDigits 10 ds → digits_behind n ds ≡ digits_value_after 10 n ds
unfolding digits_behind
behind_digits n [] h = refl
behind_digits n (c ∷ cs) h = rw (one_digit n c h.0) (behind_digits (n * 10 + digit_value c) cs h.1)

shifted : (n m : ℕ) (ds : List ℕ) → digits_value_after 10 (n + m) ds ≡ n * 10 ^ length ds + digits_value_after 10 m ds
shifted n m [] = ones n m (10 ^ 0) refl
  where
    ones : (n m p : ℕ) → p ≡ 1 → n + m ≡ n * p + m
    ones n m p e = rw e (omega arith)
shifted n m (c ∷ cs) = ap (λ (k : ℕ). digits_value_after 10 k cs) (ring n m (digit_value c)) ∙ shifted (n * 10) (m * 10 + digit_value c) cs ∙ ap (λ (k : ℕ).
    k + digits_value_after 10 (m * 10 + digit_value c) cs) (power n (10 ^ length cs) ∙ ap (λ (k : ℕ). n * k) (sym (pow-suc 10 (length cs))))
  where
    ring : (n m d : ℕ) → (n + m) * 10 + d ≡ n * 10 + (m * 10 + d)
    ring n m d = omega arith

    power : (n p : ℕ) → n * 10 * p ≡ n * (p * 10)
    power n p = omega arith

-- after n, the digits of a number
pub behind_decimal : (n m : ℕ) → m < 10 ^ 64 → digits_behind n (decimal m) ≡ n * 10 ^ length (decimal m) + m
behind_decimal n m h =
    let (numeral, value) = decimal_is_IsNumeral_wide m h in
    behind_digits n (decimal m) numeral.1 ∙ ap (λ (k : ℕ). digits_value_after 10 k (decimal m)) (plus_none n) ∙ shifted n 0 (decimal m) ∙ ap (λ (k : ℕ). n * 10 ^ length (decimal m) + k) value
  where
    plus_none : (n : ℕ) → n ≡ n + 0
    plus_none n = omega arith

-- after n, zeros
behind_zeros : (n j : ℕ) → digits_behind n (replicate j 48) ≡ n * 10 ^ j
unfolding digits_behind
behind_zeros n zero = one n
  where
    one : (n : ℕ) → n ≡ n * 10 ^ 0
    one n = omega arith
behind_zeros n (suc j) = ap (λ (k : ℕ). digits_behind k (replicate j 48)) (zero_more n) ∙ behind_zeros (n * 10) j ∙ rw (pow-suc 10 j) (power n (10 ^ j))
  where
    zero_more : (n : ℕ) → with_byte n 48 ≡ n * 10
    zero_more n = omega arith

    power : (n p : ℕ) → n * 10 * p ≡ n * (p * 10)
    power n p = omega arith

-- after n, the padded digits of a part
pub behind_padded : (n k r : ℕ) → 0 < k → r < 10 ^ k → r < 10 ^ 64 → digits_behind n (padded_digits k r) ≡ n * 10 ^ k + r
behind_padded n k r some small wide =
    let short : length (decimal r) ≤ k = length-decimal-le_wide k r some small wide in
    behind_append n (replicate (k - length (decimal r)) 48) (decimal r) ∙ ap (λ (m : ℕ). digits_behind m (decimal r))
    (behind_zeros n (k - length (decimal r))) ∙ behind_decimal (n * 10 ^ (k - length (decimal r))) r wide
    ∙ ap (λ (m : ℕ). m + r) (times n (10 ^ (k - length (decimal r))) (10 ^ length (decimal r)) ∙ ap (λ (m : ℕ). n * m)
    (sym (pow-add 10 (k - length (decimal r)) (length (decimal r))) ∙ ap (λ (m : ℕ). 10 ^ m) (back k (length (decimal r)) short)))
  where
    times : (n p q : ℕ) → n * p * q ≡ n * (p * q)
    times n p q = omega arith

    back : (k l : ℕ) → l ≤ k → k - l + l ≡ k
    back k l h = omega arith

-- the digits and the point of a number
abbrev pub body : ℕ → ℕ → List ℕ
body k n = decimal (n / 10 ^ k) ++ codes "." ++ padded_digits k (n % 10 ^ k)

point : (n : ℕ) → digits_behind n (codes ".") ≡ n
unfolding digits_behind
point n = refl

division : (n p : ℕ) → 0 < p → n / p * p + n % p ≡ n
division n p h = omega arith

pub part_less : (n p top : ℕ) → 0 < p → n < top → n % p < top
part_less n p top h k = let e = division n p h in omega arith

pub quotient_less : (n p top : ℕ) → 0 < p → n < top → n / p < top
quotient_less n p top h k = grind (arith, division)

pub body_value : (k n : ℕ) → 0 < k → n < 10 ^ 64 → digits_behind 0 (body k n) ≡ n
body_value k n some small =
    let p = ten_pos k in
    behind_append 0 (decimal (n / 10 ^ k) ++ codes ".") (padded_digits k (n % 10 ^ k))
    ∙ ap (λ (m : ℕ). digits_behind m (padded_digits k (n % 10 ^ k)))
    (behind_append 0 (decimal (n / 10 ^ k)) (codes ".") ∙ point (digits_behind 0 (decimal (n / 10 ^ k))) ∙ behind_decimal 0 (n / 10 ^ k)
    (quotient_less n (10 ^ k) (10 ^ 64) p small) ∙ none (10 ^ length (decimal (n / 10 ^ k))) (n / 10 ^ k))
    ∙ behind_padded (n / 10 ^ k) k (n % 10 ^ k) some (mod_below n (10 ^ k) p) (part_less n (10 ^ k) (10 ^ 64) p small)
    ∙ division n (10 ^ k) p
  where
    none : (p m : ℕ) → 0 * p + m ≡ m
    none p m = omega arith

-- digits in front are no minus sign
no_minus : (ds rest : List ℕ) → 0 < length ds → AllDigits 10 ds → is_negative (ds ++ rest) ≡ false
no_minus [] rest some h = absurd (omega arith)
no_minus (c ∷ cs) rest some h = grind (arith, is_digit, nat_tests)

value_without_sign : (w : List ℕ) (n : ℕ) → is_negative w ≡ false → digits_behind 0 w ≡ n → value_of w ≡ pos n
value_without_sign w n h e = rw (h, e) refl

negative : (w : List ℕ) (n : ℕ) → is_negative w ≡ true → digits_behind 0 w ≡ suc n → value_of w ≡ negsuc n
negative w n h e = rw (h, e) refl

behind_body : (k n : ℕ) (rest : List ℕ) → 0 < k → n < 10 ^ 64 → ((m : ℕ) → digits_behind m rest ≡ m) → digits_behind 0 (body k n ++ rest) ≡ n
behind_body k n rest some small none = behind_append 0 (body k n) rest ∙ none (digits_behind 0 (body k n)) ∙ body_value k n some small

regrouped : (a b c d : List ℕ) → ((a ++ b) ++ c) ++ d ≡ a ++ (b ++ (c ++ d))
regrouped a b c d = simp append_assoc

behind_minus : (xs : List ℕ) → digits_behind 0 (45 ∷ xs) ≡ digits_behind 0 xs
unfolding digits_behind
behind_minus xs = refl

negative_is : (k n : ℕ) (rest : List ℕ) → fixed_text k (negsuc n) ++ rest ≡ 45 ∷ (body k (suc n) ++ rest)
negative_is k n rest = refl

-- what is read in a text with a point, and nothing with a digit after it
pub value_is : (k : ℕ) (z : ℤ) (rest : List ℕ) → 0 < k → nat_abs z < 10 ^ 64 → ((m : ℕ) → digits_behind m rest ≡ m) → value_of (fixed_text k z ++ rest) ≡ z
value_is k (pos n) rest some small none =
    let (numeral, value) = decimal_is_IsNumeral_wide (n / 10 ^ k) (quotient_less n (10 ^ k) (10 ^ 64) (ten_pos k) small) in
    let minus : is_negative (body k n ++ rest) ≡ false =
    ap is_negative (regrouped (decimal (n / 10 ^ k)) (codes ".") (padded_digits k (n % 10 ^ k)) rest) ∙ no_minus (decimal (n / 10 ^ k))
    (codes "." ++ (padded_digits k (n % 10 ^ k) ++ rest)) numeral.0 numeral.1 in
    value_without_sign (body k n ++ rest) n minus (behind_body k n rest some small none)
value_is k (negsuc n) rest some small none = grind (arith, negative_is, negative, behind_minus, behind_body)

-- one byte of a loop over a word
pub one_more : (xs : List ℕ) (i n m c : ℕ) → i < length xs → c ≡ get_or xs i 0 → m ≡ with_byte n c → digits_behind n (drop i xs) ≡ digits_behind m (drop (i + 1) xs)
unfolding digits_behind
one_more xs i n m c lt e is = rw (is, e, add-one, drop-cons xs i 0) refl

at_least : (n c : ℕ) → n ≤ with_byte n c
at_least n c = grind (arith, nat_tests)

pub grows : (n : ℕ) (xs : List ℕ) → n ≤ digits_behind n xs
unfolding digits_behind
grows n [] = omega arith
grows n (c ∷ cs) = let a = at_least n c in let b = grows (with_byte n c) cs in omega (arith, a, b)

pub past : (xs : List ℕ) (i n c whole limit : ℕ) → i < length xs → c ≡ get_or xs i 0 → limit ≤ with_byte n c → digits_behind n (drop i xs) ≡ whole → limit ≤ whole
past xs i n c whole limit lt e over h = let a = grows (with_byte n c) (drop (i + 1) xs) in let b = one_more xs i n (with_byte n c) c lt e refl in omega (arith, a, b)

pub at_end : (xs : List ℕ) (i n whole : ℕ) → length xs ≤ i → digits_behind n (drop i xs) ≡ whole → n ≡ whole
unfolding digits_behind
at_end xs i n whole over h = ap (digits_behind n) (sym (drop_all i xs over)) ∙ h
