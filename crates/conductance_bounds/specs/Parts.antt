-- The part of a stress period that has passed, and a head given at its start and its end (TM 6-A16, chapter 6, CHD).
use Rattle.std.specs.Prelude.{◌≡◌, ℕ, ◌-◌, ◌*◌, ◌≤◌, ◌^◌, ◌⊎◌, ℤ, pos, neg_ℤ, ◌+ℤ◌, ◌*ℤ◌, Bool, ◌||◌, ◌==◌, if◌then◌else◌, min, zero, suc}
use Rattle.std.specs.Int.{int_min, int_max, int_div_euclid}
use Rattle.decimal_input.specs.{declared.dec.Dec.Dec, size, Ratio, ratio, Ratios.den, Ratios.AtMost}
use Rattle.scaled_decimal.specs.{declared.decimal.Sd.Sd, Lower, Upper, value, IsSd, HasSize, IsNear}
use Rattle.model_types.specs.{declared.period.Period.Period, multiplier, one, number_one}
use Rattle.conductance_bounds.specs.{declared.storage.Factors.Factors, declared.part.Part.Part, declared.head.HeadPair.HeadPair, Terms.Term, Terms.bound}
use Rattle.conductance_bounds.specs.{Terms.Term.Quotient, Terms.Term.Number, Terms.Term.Sum, Terms.Term.Product, Pairs.pair, Pairs.head_pair}

-- The factors of growing time steps. With T for TSMULT the steps of a period have the lengths 1, T, T ^ 2, .. in units of the first one.
-- 1 + t + .. + t ^ n, by Horner's rule
unfoldable pub sum_term : Ratio → ℕ → Term
sum_term t zero = Number one
sum_term t (suc n) = Sum (Product (sum_term t n) (Number t)) (Number one)

-- t ^ n
unfoldable pub power_term : Ratio → ℕ → Term
power_term t zero = Number one
power_term t (suc n) = Product (power_term t n) (Number t)

-- the multiplier of at most 1000 steps that grow or shrink: from 0.001 to 1000
pub record IsSlow (t : Dec) (n : ℕ) : Type 0 where
  pub few : n ≤ 1000
  pub least : AtMost (ratio 1 1000) (size t)
  pub most : AtMost (size t) (ratio 1000 1)

-- the multiplier of n steps: 1 for any number of them
abbrev pub IsMultiplier : Dec → ℕ → Type 0
IsMultiplier t n = (t ≡ number_one) ⊎ IsSlow t n

-- two decimals of a factor: above 0, in order, with exponents from -n to n
pub record AreFactors (n : ℕ) (lo hi : Sd) : Type 0 where
  pub low : IsSd lo
  pub high : IsSd hi
  pub low_size : HasSize lo (neg_ℤ (pos n)) (pos n)
  pub high_size : HasSize hi (neg_ℤ (pos n)) (pos n)
  pub order : AtMost (value lo) (value hi)

-- factors of which storage can be made
pub record IsUsable (f : Factors) : Type 0 where
  pub sum : AreFactors 5000 f.sum_lo f.sum_hi
  pub power : AreFactors 4000 f.power_lo f.power_hi

-- the factors of a step of `steps` steps: the sum of all their lengths, and the length of step n
unfoldable pub factors_of : Ratio → ℕ → ℕ → Factors
factors_of t steps n = record {
  sum_lo = bound (sum_term t (steps - 1)) Lower;
  sum_hi = bound (sum_term t (steps - 1)) Upper;
  power_lo = bound (power_term t (n - 1)) Lower;
  power_hi = bound (power_term t (n - 1)) Upper;
}

-- the part at the end of step n: G(n) over G(NSTP)
abbrev pub part_term : Period → ℕ → Term
part_term p n = Quotient (sum_term (multiplier p) (n - 1)) (sum_term (multiplier p) (p.nstp - 1))

-- at the last step, and where PERLEN is 0, all of the period has passed
abbrev pub is_whole : Period → ℕ → Bool
is_whole p n = n == p.nstp || p.perlen.digits == 0

-- its bounds in units of 10 ^ -18, at most 1
unfoldable pub part : Period → ℕ → Part
part p n =
    let growing = pair (part_term p n) 18 in
    if is_whole p n then record { lo = 10 ^ 18; hi = 10 ^ 18 } else record { lo = growing.lo; hi = min growing.hi (10 ^ 18) }

-- F is at most 1 and lies from f to g in units of 10 ^ -18; f and g are at most 1 too
pub record IsPassed (F : Ratio) (f g : ℕ) : Type 0 where
  pub low_range : f ≤ 10 ^ 18
  pub high_range : g ≤ 10 ^ 18
  pub part : F.num ≤ den F
  pub below : f * den F ≤ F.num * 10 ^ 18
  pub above : F.num * 10 ^ 18 ≤ g * den F

-- a * (1 - f) + e * f in units of 10 ^ -18 of those of a and e, for f in units of 10 ^ -18
abbrev pub blend : ℤ → ℤ → ℕ → ℤ
blend a e f = a *ℤ pos (10 ^ 18 - f) +ℤ e *ℤ pos f

-- a head from -4000000000 to 4000000000 length units, in units of 10 ^ -9
abbrev pub IsHeadUnits : ℤ → Type 0
IsHeadUnits z = IsNear z 4000000000000000000

-- x over 10 ^ 18 as a whole number: the floor, and the ceiling
abbrev pub head_floor_of : ℤ → ℤ
head_floor_of x = int_div_euclid x (pos (10 ^ 18))

abbrev pub ceiling_of : ℤ → ℤ
ceiling_of x = neg_ℤ (head_floor_of (neg_ℤ x))

-- The bounds of a head, in units of 10 ^ -9, where the part of the period that has passed lies within `passed`: the floor
-- of the lesser blend of the floors of Shead and Ehead, and the ceiling of the greater blend of their ceilings.
unfoldable pub given_pair : Dec → Dec → Part → HeadPair
given_pair shead ehead passed =
    let start = head_pair shead in
    let end = head_pair ehead in
    record {
      lo = head_floor_of (int_min (blend start.lo end.lo passed.lo) (blend start.lo end.lo passed.hi));
      hi = ceiling_of (int_max (blend start.hi end.hi passed.lo) (blend start.hi end.hi passed.hi));
    }
