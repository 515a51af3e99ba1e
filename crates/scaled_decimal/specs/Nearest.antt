use Rattle.std.specs.Prelude.{◌≡◌, ℕ, ◌≤◌, ◌<◌, ◌^◌, ◌*◌, ◌/◌, ◌-◌, nat_lt, if◌then◌else◌, length, ◌⊎◌, ℤ, pos, neg_ℤ, ◌≤ℤ◌, ◌+ℤ◌, ◌-ℤ◌, ◌+◌}
use Rattle.std.specs.{Int.int_min, Int.int_max, Int.Digits.digits_of}
use Rattle.decimal_input.specs.{Ratio, Below, scaled_ratio, IsFloor, IsCeiling, Ratios.AtMost, Ratios.den}
use Rattle.scaled_decimal.specs.declared.decimal.Sd.{Sd}

-- 18 digits, or zero with the exponent 0
abbrev pub IsSd : Sd → Type 0
IsSd x = ((10 ^ 17 ≤ x.m) × (x.m < 10 ^ 18)) ⊎ ((x.m ≡ 0) × (x.e ≡ pos 0))

-- m * 10 ^ e
abbrev pub value : Sd → Ratio
value x = scaled_ratio x.m x.e

-- r is the greatest 18-digit decimal not above f, over all exponents
pub record IsDown (r : Sd) (f : Ratio) : Type 0 where
  pub decimal : IsSd r
  pub at_most : AtMost (value r) f
  pub greatest : (x : Sd) → IsSd x → AtMost (value x) f → AtMost (value x) (value r)

-- r is the least 18-digit decimal not below f, over all exponents
pub record IsUp (r : Sd) (f : Ratio) : Type 0 where
  pub decimal : IsSd r
  pub at_least : AtMost f (value r)
  pub least : (x : Sd) → IsSd x → AtMost f (value x) → AtMost (value r) (value x)

-- down, or up
pub data Side : Type 0 where
  Lower : Side
  Upper : Side

-- r is f rounded to this side
abbrev pub IsRounded : Side → Sd → Ratio → Type 0
IsRounded Lower r f = IsDown r f
IsRounded Upper r f = IsUp r f

-- n over d as a whole number
abbrev pub quotient : Side → ℕ → ℕ → ℕ
quotient Lower n d = n / d
quotient Upper n d = (n + (d - 1)) / d

-- f in whole units of 10 ^ -s: its floor, or its ceiling
unfoldable pub in_units : Side → Ratio → ℕ → ℕ
in_units side f s = quotient side (f.num * 10 ^ s) (den f)

-- m units of 10 ^ e, for m up to 10 ^ 18, which is 10 ^ 17 of the next unit; zero has the exponent 0
abbrev pub of_units : ℕ → ℤ → Sd
of_units m e =
    if nat_lt 0 m
    then (if nat_lt m (10 ^ 18) then record { m = m; e = e } else record { m = 10 ^ 17; e = e +ℤ pos 1 })
    else record { m = 0; e = pos 0 }

-- n units of 10 ^ -p rounded to their first 18 digits
abbrev pub first_digits : Side → ℕ → ℕ → Sd
first_digits side n p =
    let more = length (digits_of 10 n) - 18 in
    of_units (quotient side n (10 ^ more)) (pos more -ℤ pos p)

-- f rounded to this side. In units of 10 ^ -(17 + d), for the denominator d, it has 18 digits or more unless it is 0; the first
-- 18 of these are kept. `RoundedIsNearest` says which decimal that is.
unfoldable pub rounded_decimal : Side → Ratio → Sd
rounded_decimal side f = first_digits side (in_units side f (17 + den f)) (17 + den f)

-- each number has one greatest decimal not above it and one least not below it, and these are its rounded decimals
pub record RoundedIsNearest : Type 0 where
  pub nearest : (side : Side) (f : Ratio) → IsRounded side (rounded_decimal side f) f
  pub one : (side : Side) (r : Sd) (f : Ratio) → IsRounded side r f → r ≡ rounded_decimal side f

-- the whole units are the floor and the ceiling
pub record UnitsAreWhole : Type 0 where
  pub floors : (f : Ratio) (s : ℕ) → IsFloor (in_units Lower f s) f s
  pub ceilings : (f : Ratio) (s : ℕ) → IsCeiling (in_units Upper f s) f s

-- a number from -b to b, as an exponent
pub record IsNear (e : ℤ) (b : ℕ) : Type 0 where
  pub above : neg_ℤ (pos b) ≤ℤ e
  pub below : e ≤ℤ pos b

-- two decimals with exponents from -10000 to 10000
pub record AreOperands (a b : Sd) : Type 0 where
  pub a_decimal : IsSd a
  pub b_decimal : IsSd b
  pub a_near : IsNear a.e 10000
  pub b_near : IsNear b.e 10000

-- r is positive, with an exponent from low to high
pub record HasSize (r : Sd) (low high : ℤ) : Type 0 where
  pub positive : 0 < r.m
  pub above : low ≤ℤ r.e
  pub below : r.e ≤ℤ high

-- an exponent from low to high, or 0, which zero has
pub record IsWithin (e low high : ℤ) : Type 0 where
  pub above : int_min low (pos 0) ≤ℤ e
  pub below : e ≤ℤ int_max high (pos 0)

-- f lies from q to just below q + 1, in units of 10 ^ e
pub record IsFrom (q : ℕ) (e : ℤ) (f : Ratio) : Type 0 where
  pub from : AtMost (scaled_ratio q e) f
  pub before : Below f (scaled_ratio (q + 1) e)

-- f lies above p and not above p + 1, in units of 10 ^ e
pub record IsUpTo (p : ℕ) (e : ℤ) (f : Ratio) : Type 0 where
  pub after : Below (scaled_ratio p e) f
  pub up_to : AtMost f (scaled_ratio (p + 1) e)

-- f ≤ g gives f rounded ≤ g rounded, both down or both up, to 18 digits or to whole units of 10 ^ -s
pub record RoundingsKeepOrder : Type 0 where
  pub down : (f g : Ratio) (q r : Sd) → AtMost f g → IsDown q f → IsDown r g → AtMost (value q) (value r)
  pub up : (f g : Ratio) (q r : Sd) → AtMost f g → IsUp q f → IsUp r g → AtMost (value q) (value r)
  pub floors : (f g : Ratio) (n m s : ℕ) → AtMost f g → IsFloor n f s → IsFloor m g s → n ≤ m
  pub ceilings : (f g : Ratio) (n m s : ℕ) → AtMost f g → IsCeiling n f s → IsCeiling m g s → n ≤ m
