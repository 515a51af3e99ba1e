use Rattle.std.specs.Prelude.{◌≡◌, ℕ, ◌+◌, ◌-◌, ◌*◌, ◌≤◌, ◌⊎◌, ◌&&◌, ◌||◌, ◌==◌, nat_le, List, [], ◌∷◌, ◌++◌, length, Bool, true, false, ℤ, pos, ◌-ℤ◌, drop}
use Rattle.std.specs.Prelude.{if◌then◌else◌, Option, Some, None}
use Rattle.std.specs.List.{All, take_while, prefix_len}
use Rattle.decimal_input.specs.Decimals.{with_sign}

-- '0' to '9'
abbrev pub is_digit : ℕ → Bool
is_digit b = nat_le 48 b && nat_le b 57

-- 'E', 'e', 'D' or 'd'
abbrev pub is_mark : ℕ → Bool
is_mark b = b == 69 || b == 101 || b == 68 || b == 100

abbrev pub AreDigits : List ℕ → Type 0
AreDigits bs = All (λ b. is_digit b ≡ true) bs

-- The number that digits spell after the number c.
abbrev pub number_from : ℕ → List ℕ → ℕ
number_from c [] = c
number_from c (b ∷ bs) = number_from (c * 10 + (b - 48)) bs

-- A sign before a number: '-', or '+' or nothing.
abbrev pub IsSign : Bool → List ℕ → Type 0
IsSign neg s = ((neg ≡ true) × (s ≡ 45 ∷ [])) ⊎ ((neg ≡ false) × ((s ≡ 43 ∷ []) ⊎ (s ≡ [])))

-- The word w is the integer z: an optional sign and 1 to 18 digits.
pub record IsInteger (w : List ℕ) (z : ℤ) : Type 0 where
  pub neg : Bool
  pub sign : List ℕ
  pub digits : List ℕ
  pub cut : w ≡ sign ++ digits
  pub is_sign : IsSign neg sign
  pub are_digits : AreDigits digits
  pub some : 1 ≤ length digits
  pub few : length digits ≤ 18
  pub value : z ≡ with_sign neg (number_from 0 digits)

-- t is a point with the digits p after it, or nothing.
abbrev pub IsPart : List ℕ → List ℕ → Type 0
IsPart p t = ((t ≡ 46 ∷ p) × AreDigits p) ⊎ ((t ≡ []) × (p ≡ []))

-- t is a mark, an optional sign and one digit or more, which spell the exponent e.
pub record IsMarked (e : ℤ) (t : List ℕ) : Type 0 where
  pub mark : ℕ
  pub neg : Bool
  pub sign : List ℕ
  pub digits : List ℕ
  pub cut : t ≡ mark ∷ (sign ++ digits)
  pub is_mark_byte : is_mark mark ≡ true
  pub is_sign : IsSign neg sign
  pub are_digits : AreDigits digits
  pub some : 1 ≤ length digits
  pub value : e ≡ with_sign neg (number_from 0 digits)

-- t is the exponent e, or nothing, which means 0.
abbrev pub IsExponent : ℤ → List ℕ → Type 0
IsExponent e t = IsMarked e t ⊎ ((t ≡ []) × (e ≡ pos 0))

-- The number coefficient * 10 ^ exp, with its sign.
pub record Spelling : Type 0 where
  pub neg : Bool
  pub coefficient : ℕ
  pub exp : ℤ

-- The word w spells the number n: an optional sign, digits with at most one point and at least
-- one digit, then perhaps an exponent.
pub record Spells (w : List ℕ) (n : Spelling) : Type 0 where
  pub sign : List ℕ
  pub whole : List ℕ
  pub part : List ℕ
  pub point : List ℕ
  pub behind : List ℕ
  pub power : ℤ
  pub cut : w ≡ sign ++ (whole ++ (point ++ behind))
  pub is_sign : IsSign n.neg sign
  pub are_digits : AreDigits whole
  pub is_part : IsPart part point
  pub some : 1 ≤ length whole + length part
  pub is_exponent : IsExponent power behind
  pub coefficient : n.coefficient ≡ number_from 0 (whole ++ part)
  pub exp : n.exp ≡ power -ℤ pos (length part)

-- How a word is cut into its parts from the left, for the clauses of the functions that cut it.
-- Grammar defines what a word spells without these functions; both agree.

-- '+' or '-'
abbrev pub is_sign : ℕ → Bool
is_sign b = b == 43 || b == 45

-- whether a minus sign comes first
abbrev pub is_negative : List ℕ → Bool
is_negative [] = false
is_negative (b ∷ bs) = b == 45

-- the word without its sign
abbrev pub without_sign : List ℕ → List ℕ
without_sign [] = []
without_sign (b ∷ bs) = if is_sign b then bs else b ∷ bs

-- the leading digits
abbrev pub digits_of : List ℕ → List ℕ
digits_of bs = take_while is_digit bs

-- what follows the leading digits
abbrev pub after_digits : List ℕ → List ℕ
after_digits bs = drop (prefix_len is_digit bs) bs

-- the digits after a point, where there is one
abbrev pub digits_after_point : List ℕ → List ℕ
digits_after_point [] = []
digits_after_point (b ∷ bs) = if b == 46 then digits_of bs else []

-- what follows the point and its digits
abbrev pub behind_part : List ℕ → List ℕ
behind_part [] = []
behind_part (b ∷ bs) = if b == 46 then after_digits bs else b ∷ bs

-- digits alone, and at least one
abbrev pub whole_number : Bool → List ℕ → Option ℤ
whole_number neg bs = if nat_le 1 (length bs) && nat_le (length bs) (prefix_len is_digit bs) then Some (with_sign neg (number_from 0 bs)) else None

-- the integer that a word spells, if any: a sign, or none, and 1 to 18 digits
abbrev pub integer_of : List ℕ → Option ℤ
integer_of w = if nat_le (length (without_sign w)) 18 then whole_number (is_negative w) (without_sign w) else None

-- the exponent after a mark, or 0 where nothing is written
abbrev pub exponent_of : List ℕ → Option ℤ
exponent_of [] = Some (pos 0)
exponent_of (b ∷ bs) = if is_mark b then whole_number (is_negative bs) (without_sign bs) else None

-- the number of the digits before the point, those after it, and the exponent
abbrev pub spelling : Bool → List ℕ → List ℕ → Option ℤ → Option Spelling
spelling neg whole part None = None
spelling neg whole part (Some e) =
    if nat_le 1 (length whole + length part)
    then Some (record {
      neg = neg;
      coefficient = number_from (number_from 0 whole) part;
      exp = e -ℤ pos (length part);
    }) else None

-- the number that a word spells by the grammar, if any
abbrev pub spelling_of : List ℕ → Option Spelling
spelling_of w =
    let body = without_sign w in
    let tail = after_digits body in
    spelling (is_negative w) (digits_of body) (digits_after_point tail) (exponent_of (behind_part tail))
