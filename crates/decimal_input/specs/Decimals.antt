use Rattle.std.specs.Prelude.{ℕ, suc, not, ◌*◌, ◌^◌, Bool, true, false, ℤ, pos, negsuc, neg_ℤ, ◌≡◌, ◌<◌, ◌%◌, ◌⊎◌, ◌≤ℤ◌}
use Rattle.decimal_input.specs.{Ratios.Ratio, Ratios.ratio, Fractions.Fraction, declared.dec.Dec.Dec}

-- The positive part of a number: the power of ten above the line, in 10 ^ e.
abbrev pub up : ℤ → ℕ
up (pos n) = n
up (negsuc n) = 0

-- The negative part of a number, as a magnitude: the power of ten below the line, in 10 ^ e.
abbrev pub down : ℤ → ℕ
down (pos n) = 0
down (negsuc n) = suc n

-- The fraction m * 10 ^ e.
unfoldable pub scaled_ratio : ℕ → ℤ → Ratio
scaled_ratio m e = ratio (m * 10 ^ up e) (10 ^ down e)

-- n, or -n where there is a minus sign.
abbrev pub with_sign : Bool → ℕ → ℤ
with_sign true n = neg_ℤ (pos n)
with_sign false n = pos n

-- Whether exactly one of two numbers has a minus sign. Their product is negative then.
abbrev pub differ : Bool → Bool → Bool
differ true b = not b
differ false b = b

-- The fraction m * 10 ^ e, with a sign.
abbrev pub decimal : Bool → ℕ → ℤ → Fraction
decimal neg m e = record { num = with_sign neg (scaled_ratio m e).num; less = (scaled_ratio m e).less }

-- The magnitude of a number of the input: digits * 10 ^ exp.
abbrev pub size : Dec → Ratio
size d = scaled_ratio d.digits d.exp

-- The value of a number of the input, with its sign.
abbrev pub number : Dec → Fraction
number d = decimal d.neg d.digits d.exp

-- The canonical form: at most 18 digits, the last one not 0, or the one spelling of zero; an exponent from -40 to 40.
pub record IsDec (d : Dec) : Type 0 where
  pub few : d.digits < 10 ^ 18
  pub form : ((d.digits ≡ 0) × (d.neg ≡ false) × (d.exp ≡ pos 0)) ⊎ ((0 < d.digits) × (0 < d.digits % 10))
  pub above : neg_ℤ (pos 40) ≤ℤ d.exp
  pub below : d.exp ≤ℤ pos 40
