-- The number that a word names, and products, each exact and in canonical form, or the first test
-- that it fails.
use Rattle.std.specs.Prelude.{ℕ, zero, suc, ◌+◌, ◌*◌, ◌/◌, ◌%◌, Bool, ◌==◌, nat_le, nat_lt, if◌then◌else◌, List, length, Option, Some, None, Result, Ok, Err, ℤ}
use Rattle.std.specs.Prelude.{pos, negsuc, ◌+ℤ◌, ◌*ℤ◌, false, ◌≡◌, ◌↔◌}
use Rattle.decimal_input.specs.{declared.dec.Dec.Dec, declared.dec.NumFault.NumFault, declared.dec.NumFault.TheVariants.BadNumber}
use Rattle.decimal_input.specs.{declared.dec.NumFault.TheVariants.TooManyDigits, Spelling, IsInteger, spelling_of, integer_of, differ, IsCanonical, Names}
use Rattle.record_lines.specs.{◌>>=◌}

-- c without its trailing zeros, of which at most n are removed
unfoldable pub significant : ℕ → ℕ → ℕ
significant zero c = c
significant (suc n) c = if c % 10 == 0 then significant n (c / 10) else c

-- the number of trailing zeros of c, at most n
unfoldable pub zeros : ℕ → ℕ → ℕ
zeros zero c = 0
zeros (suc n) c = if c % 10 == 0 then zeros n (c / 10) + 1 else 0

-- from -40 to 40
abbrev pub is_exponent : ℤ → Bool
is_exponent (pos n) = nat_le n 40
is_exponent (negsuc n) = nat_lt n 40

-- the last two tests: 18 digits, then the exponent
abbrev pub number_or_fault : Bool → ℕ → ℤ → Result Dec NumFault
number_or_fault neg d e =
    if nat_lt d 1000000000000000000
    then (if is_exponent e then Ok (record { neg = neg; digits = d; exp = e }) else Err BadNumber)
    else Err TooManyDigits

-- c * 10 ^ e with its sign; zero is zero whatever its sign and exponent
unfoldable pub canonical : Bool → ℕ → ℤ → Result Dec NumFault
canonical neg c e = if c == 0 then Ok (record { neg = false; digits = 0; exp = pos 0 }) else number_or_fault neg (significant c c) (e +ℤ pos (zeros c c))

abbrev pub spelt_number : Option Spelling → Result Dec NumFault
spelt_number None = Err BadNumber
spelt_number (Some n) = canonical n.neg n.coefficient n.exp

-- the number of a word of at most 64 bytes
unfoldable pub number : List ℕ → Result Dec NumFault
number word = if nat_le (length word) 64 then spelt_number (spelling_of word) else Err BadNumber

unfoldable pub product : Dec → Dec → Result Dec NumFault
product a b = canonical (differ a.neg b.neg) (a.digits * b.digits) (a.exp +ℤ b.exp)

abbrev pub or_bad : Option ℤ → Result ℤ NumFault
or_bad None = Err BadNumber
or_bad (Some z) = Ok z

-- the integer of a word
unfoldable pub integer : List ℕ → Result ℤ NumFault
integer word = or_bad (integer_of word)

-- an integer of 64 bits
abbrev pub is_short : ℤ → Bool
is_short (pos n) = nat_lt n 9223372036854775808
is_short (negsuc n) = nat_lt n 9223372036854775808

unfoldable pub integer_product : ℤ → ℤ → Result ℤ NumFault
integer_product a b = if is_short (a *ℤ b) then Ok (a *ℤ b) else Err BadNumber

-- The two kinds of number that an array may have.
-- how a word is read, and how a value is multiplied
pub record Kind (V : Type 0) : Type 0 where
  pub reading : List ℕ → Result V NumFault
  pub scaling : V → V → Result V NumFault

-- a multiplier of zero isn't applied
unfoldable pub scaled_value : Dec → Dec → Result Dec NumFault
scaled_value by value = if by.digits == 0 then Ok value else product value by

abbrev pub is_zero : ℤ → Bool
is_zero (pos n) = n == 0
is_zero (negsuc n) = false

unfoldable pub integer_scaled : ℤ → ℤ → Result ℤ NumFault
integer_scaled by value = if is_zero by then Ok value else integer_product value by

abbrev pub real : Kind Dec
real = record { reading = number; scaling = scaled_value }

abbrev pub whole : Kind ℤ
whole = record { reading = integer; scaling = integer_scaled }

-- a word's value, times its multiplier where the array has one
unfoldable pub multiplied_value : {V : Type 0} → Kind V → V → List ℕ → Result V NumFault
multiplied_value kind by word = do
  value ← kind.reading word
  kind.scaling by value

abbrev pub with_multiplier : {V : Type 0} → Kind V → Option V → List ℕ → Result V NumFault
with_multiplier kind None = kind.reading
with_multiplier kind (Some by) = multiplied_value kind by

-- Statements of laws.
-- a word is read as the integer that it is by the grammar
abbrev pub IntegersFollowGrammar : Type 0
IntegersFollowGrammar = (word : List ℕ) (z : ℤ) → (integer word ≡ Ok z) ↔ IsInteger word z

-- a word is read as the number, or refused with the fault, that it names by the grammar
abbrev pub NumbersFollowGrammar : Type 0
NumbersFollowGrammar = (word : List ℕ) (r : Result Dec NumFault) → (number word ≡ r) ↔ Names word r

-- a product is the canonical form of the exact product, or its refusal
abbrev pub ProductsAreExact : Type 0
ProductsAreExact = (a b : Dec) (r : Result Dec NumFault) → (product a b ≡ r) ↔ IsCanonical (differ a.neg b.neg) (a.digits * b.digits) (a.exp +ℤ b.exp) r
