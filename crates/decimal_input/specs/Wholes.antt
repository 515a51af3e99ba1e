use Rattle.std.specs.Prelude.{ℕ, ◌+◌, ◌*◌, ◌-◌, ◌/◌, ◌≤◌, ◌<◌, ◌^◌, ℤ, pos, ◌+ℤ◌, ◌*ℤ◌, ◌≤ℤ◌, ◌<ℤ◌, neg_ℤ, unsigned_abs, ◌≡◌, Bool, true, false, Option, Some}
use Rattle.std.specs.Prelude.{None, MatchOption, nat_lt, if◌then◌else◌}
use Rattle.std.specs.Option.{option_map}
use Rattle.decimal_input.specs.{declared.dec.Dec.Dec, Decimals.with_sign, Decimals.differ, Decimals.size, Ratios.Ratio, Ratios.den, Fractions.Fraction}
use Rattle.decimal_input.specs.{Fractions.den as denominator}

-- n is the greatest whole number not above f * 10 ^ s
pub record IsFloor (n : ℕ) (f : Ratio) (s : ℕ) : Type 0 where
  pub at_most : n * den f ≤ f.num * 10 ^ s
  pub next : f.num * 10 ^ s < (n + 1) * den f

-- n is the least whole number not below f * 10 ^ s
pub record IsCeiling (n : ℕ) (f : Ratio) (s : ℕ) : Type 0 where
  pub at_least : f.num * 10 ^ s ≤ n * den f
  pub least : (k : ℕ) → f.num * 10 ^ s ≤ k * den f → n ≤ k

-- f * 10 ^ s is at least n
pub record Reaches (n : ℕ) (f : Ratio) (s : ℕ) : Type 0 where
  pub reach : n * den f ≤ f.num * 10 ^ s

-- f * 10 ^ s is more than n
pub record Passes (n : ℕ) (f : Ratio) (s : ℕ) : Type 0 where
  pub pass : n * den f < f.num * 10 ^ s

-- r is the ceiling (up) or the floor of f * 10 ^ s, or None where that is 2 ^ 126 or more
abbrev pub IsUnits : Bool → Ratio → ℕ → Option ℕ → Type 0
IsUnits true f s r = MatchOption r (Passes (2 ^ 126 - 1) f s) (λ n. IsCeiling n f s × (n < 2 ^ 126))
IsUnits false f s r = MatchOption r (Reaches (2 ^ 126) f s) (λ n. IsFloor n f s × (n < 2 ^ 126))

-- the same as a function
abbrev pub small : ℕ → Option ℕ
small n = if nat_lt n (2 ^ 126) then Some n else None

unfoldable pub units_of : Bool → Ratio → ℕ → Option ℕ
units_of up f s = small ((f.num * 10 ^ s + (if up then f.less else 0)) / den f)

-- and of a number with its sign: the floor of a negative number is the ceiling of its magnitude, negated
abbrev pub signed_units : Bool → Dec → ℕ → Option ℤ
signed_units up d s = option_map (with_sign d.neg) (units_of (differ up d.neg) (size d) s)

abbrev pub floor : Dec → ℕ → Option ℤ
floor d s = signed_units false d s

abbrev pub ceiling : Dec → ℕ → Option ℤ
ceiling d s = signed_units true d s

-- z is the greatest whole number not above f * 10 ^ s
pub record IsSignedFloor (z : ℤ) (f : Fraction) (s : ℕ) : Type 0 where
  pub at_most : (z *ℤ pos (denominator f)) ≤ℤ (f.num *ℤ pos (10 ^ s))
  pub next : (f.num *ℤ pos (10 ^ s)) <ℤ ((z +ℤ pos 1) *ℤ pos (denominator f))

-- z is the least whole number not below f * 10 ^ s
pub record IsSignedCeiling (z : ℤ) (f : Fraction) (s : ℕ) : Type 0 where
  pub at_least : (f.num *ℤ pos (10 ^ s)) ≤ℤ (z *ℤ pos (denominator f))
  pub next : ((z +ℤ neg_ℤ (pos 1)) *ℤ pos (denominator f)) <ℤ (f.num *ℤ pos (10 ^ s))

-- The floor of f * 10 ^ s is too large: its magnitude is 2 ^ 126 or more.
pub record IsFloorPast (f : Fraction) (s : ℕ) : Type 0 where
  pub floor : ℤ
  pub is : IsSignedFloor floor f s
  pub past : 2 ^ 126 ≤ unsigned_abs floor

-- The ceiling of f * 10 ^ s is too large: its magnitude is 2 ^ 126 or more.
pub record IsCeilingPast (f : Fraction) (s : ℕ) : Type 0 where
  pub ceiling : ℤ
  pub is : IsSignedCeiling ceiling f s
  pub past : 2 ^ 126 ≤ unsigned_abs ceiling

-- Whole numbers of units of 10 ^ -s enclose a fraction that isn't negative: lo ≤ r * 10 ^ s ≤ hi.
pub record Encloses (lo hi s : ℕ) (r : Ratio) : Type 0 where
  pub lower : lo * den r ≤ r.num * 10 ^ s
  pub upper : r.num * 10 ^ s ≤ hi * den r

-- Whole numbers of units of 10 ^ -s enclose a fraction: lo ≤ f * 10 ^ s ≤ hi.
pub record EnclosesSigned (lo hi : ℤ) (s : ℕ) (f : Fraction) : Type 0 where
  pub lower : (lo *ℤ pos (denominator f)) ≤ℤ (f.num *ℤ pos (10 ^ s))
  pub upper : (f.num *ℤ pos (10 ^ s)) ≤ℤ (hi *ℤ pos (denominator f))

-- r is n over D
pub record IsShare (D : ℕ) (r : Ratio) (n : ℕ) : Type 0 where
  pub is : r.num * D ≡ n * den r

-- n over D lies between the whole numbers lo and hi.
pub record IsBetweenWhole (lo hi D n : ℕ) : Type 0 where
  pub lower : lo * D ≤ n
  pub upper : n ≤ hi * D

-- z over D lies between the whole numbers lo and hi.
pub record IsBetweenSigned (lo hi : ℤ) (D : ℕ) (z : ℤ) : Type 0 where
  pub lower : (lo *ℤ pos D) ≤ℤ z
  pub upper : z ≤ℤ (hi *ℤ pos D)
