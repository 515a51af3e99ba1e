-- A formula is data: what is added, multiplied and divided in which order. The exact value and both rounded bounds are defined from the same formula.
use Rattle.std.specs.Prelude.{◌<◌}
use Rattle.decimal_input.specs.{Ratio, over, Ratios.plus, Ratios.times, Ratios.AtMost}
use Rattle.scaled_decimal.specs.{declared.decimal.Sd.Sd, Side, Lower, Upper, value, rounded_decimal}

-- exact numbers, numbers that are known to lie between two decimals, and operations on them
pub data Term : Type 0 where
  Number : Ratio → Term
  Within : Sd → Sd → Ratio → Term
  Sum : Term → Term → Term
  Product : Term → Term → Term
  Quotient : Term → Term → Term

-- the exact value
abbrev pub exact : Term → Ratio
exact (Number f) = f
exact (Within lo hi f) = f
exact (Sum t u) = plus (exact t) (exact u)
exact (Product t u) = times (exact t) (exact u)
exact (Quotient t u) = over (exact t) (exact u)

abbrev pub other : Side → Side
other Lower = Upper
other Upper = Lower

abbrev pub end : Side → Sd → Sd → Sd
end Lower lo hi = lo
end Upper lo hi = hi

-- the formula's bound on a side: each number and each single operation is rounded to this side, and a divisor is bounded on the
-- other one; where the bound of a divisor is 0 it says nothing
unfoldable pub bound : Term → Side → Sd
bound (Number f) side = rounded_decimal side f
bound (Within lo hi f) side = end side lo hi
bound (Sum t u) side = rounded_decimal side (plus (value (bound t side)) (value (bound u side)))
bound (Product t u) side = rounded_decimal side (times (value (bound t side)) (value (bound u side)))
bound (Quotient t u) side = rounded_decimal side (over (value (bound t side)) (value (bound u (other side))))

-- f lies between two decimals
pub record IsBetween (lo hi : Sd) (f : Ratio) : Type 0 where
  pub lower : AtMost (value lo) f
  pub upper : AtMost f (value hi)

-- each number lies between its decimals, and no divisor is 0, nor its lower bound
abbrev pub Holds : Term → Type 0
Holds (Number f) = Unit {0}
Holds (Within lo hi f) = IsBetween lo hi f
Holds (Sum t u) = Holds t × Holds u
Holds (Product t u) = Holds t × Holds u
Holds (Quotient t u) = Holds t × Holds u × (0 < (bound u Lower).m)
