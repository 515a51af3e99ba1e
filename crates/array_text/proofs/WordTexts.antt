-- What is written of numbers is words, and words have no byte that ends them.
use Rattle.array_text.proofs.Common.{◌≡◌, ℕ, suc, ◌^◌, ◌<◌, ◌≤◌, ◌==◌, ◌&&◌, not, Bool, true, false, List, [], ◌∷◌, ◌++◌, length, nat_le, nat_lt, All, refl, arith, ℤ, pos, negsuc, unsigned_abs}
use Rattle.array_text.proofs.Common.{list_all, decimal, signed_decimal, length-append, All-nil, All-cons, All-append, All-weaker, nat_tests, Dec, is_digit, is_separator, sign, number_word}
use Rattle.array_text.proofs.Common.{integer_word, IsShort, IsWordByte, IsWord, Line, IsLine, and_parts}
use Rattle.std.proofs.lemmas.List.Sums.{AllPass-from_list_all}
use Rattle.array_text.proofs.DigitTexts.{digits_spell}

pub no_separator : (b : ℕ) → IsWordByte b → is_separator b ≡ false
no_separator b h = let low : 33 ≤ b = h.printable.0 in let other : b ≡ 44 → ⊥ = h.no_comma in grind (arith, nat_tests)

pub no_feed : (b : ℕ) → IsWordByte b → (b == 10) ≡ false
no_feed b h = let low : 33 ≤ b = h.printable.0 in grind (arith, nat_tests)

pub no_star : (b : ℕ) → IsWordByte b → (b == 42) ≡ false
no_star b h = let other : b ≡ 42 → ⊥ = h.no_star in grind (arith, nat_tests)

-- the same as a test
abbrev is_word_byte : ℕ → Bool
is_word_byte b = nat_le 33 b && (nat_le b 126 && (not (b == 44) && not (b == 42)))

abbrev is_plain_word : List ℕ → Bool
is_plain_word w = nat_lt 0 (length w) && list_all is_word_byte w

abbrev pub is_plain_line : Line → Bool
is_plain_line line = nat_lt 0 (length line) && list_all is_plain_word line

pub all_pass : {X : Type 0} (p : X → Bool) (P : X → Type 0) → ((x : X) → p x ≡ true → P x) → (xs : List X) → list_all p xs ≡ true → All P xs
all_pass p P f xs h = All-weaker (λ x. p x ≡ true) P f xs (AllPass-from_list_all p xs h)

byte_by_test : (b : ℕ) → is_word_byte b ≡ true → IsWordByte b
byte_by_test b h = grind (arith, and_parts, nat_le, nat_tests, no_star)

pub word_by_test : (w : List ℕ) → is_plain_word w ≡ true → IsWord w
word_by_test w h =
    let k = and_parts (nat_lt 0 (length w)) (list_all is_word_byte w) h in
    record { some = grind (arith, nat_tests, k.0); bytes = all_pass is_word_byte (λ b. IsWordByte b) byte_by_test w k.1 }

pub line_by_test : (line : Line) → is_plain_line line ≡ true → IsLine line
line_by_test line h =
    let k = and_parts (nat_lt 0 (length line)) (list_all is_plain_word line) h in
    record { some = grind (arith, nat_tests, k.0); words = all_pass is_plain_word (λ w. IsWord w) word_by_test line k.1 }

digit_byte : (b : ℕ) → is_digit b ≡ true → IsWordByte b
digit_byte b h = grind (arith, nat_tests, no_star)

decimal_bytes : (n : ℕ) → n < 10 ^ 18 → All (λ b. IsWordByte b) (decimal n)
decimal_bytes n h = All-weaker (λ b. is_digit b ≡ true) (λ b. IsWordByte b) digit_byte (decimal n) (digits_spell n h).digits

sign_bytes : (neg : Bool) → All (λ b. IsWordByte b) (sign neg)
sign_bytes true = All-cons (λ b. IsWordByte b) 45 [] (byte_by_test 45 refl) (All-nil (λ b. IsWordByte b))
sign_bytes false = All-nil (λ b. IsWordByte b)

signed_bytes : (z : ℤ) → unsigned_abs z < 10 ^ 18 → All (λ b. IsWordByte b) (signed_decimal z)
signed_bytes (pos n) h = decimal_bytes n h
signed_bytes (negsuc n) h = All-cons (λ b. IsWordByte b) 45 (decimal (suc n)) (byte_by_test 45 refl) (decimal_bytes (suc n) h)

signed_some : (z : ℤ) → unsigned_abs z < 10 ^ 18 → 1 ≤ length (signed_decimal z)
signed_some (pos n) h = (digits_spell n h).some
signed_some (negsuc n) h = omega arith

pub count_is_word : (n : ℕ) → n < 10 ^ 18 → IsWord (decimal n)
count_is_word n h = record { some = (digits_spell n h).some; bytes = decimal_bytes n h }

pub integer_is_word : (z : ℤ) → IsShort z → IsWord (integer_word z)
unfolding integer_word
integer_is_word z h = record { some = signed_some z h.few; bytes = signed_bytes z h.few }

pub number_is_word : (d : Dec) → d.digits < 10 ^ 18 → unsigned_abs d.exp < 10 ^ 18 → IsWord (number_word d)
unfolding number_word
number_is_word d few short =
    let tail = All-cons (λ b. IsWordByte b) 69 (signed_decimal d.exp) (byte_by_test 69 refl) (signed_bytes d.exp short) in
    let body = All-append (λ b. IsWordByte b) (decimal d.digits) (69 ∷ signed_decimal d.exp) (decimal_bytes d.digits few) tail in
    let whole = All-append (λ b. IsWordByte b) (sign d.neg) (decimal d.digits ++ (69 ∷ signed_decimal d.exp)) (sign_bytes d.neg) body in
    let e = length-append (sign d.neg) (decimal d.digits ++ (69 ∷ signed_decimal d.exp)) in
    let f = length-append (decimal d.digits) (69 ∷ signed_decimal d.exp) in
    record { some = omega arith; bytes = whole }
