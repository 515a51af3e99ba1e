-- Parts of a conductance, rounded.
use Rattle.plan_step.proofs.Common.{◌≤◌, ◌<◌, ◌+◌, ◌*◌, ◌/◌, ◌-◌, ℕ, arith, inl, inr, le_of_mul-le-mul_right, mul-le-mul_left, mul-le-mul_right, cases_lt, div_ceil, Side, High, Low, divided}
use Rattle.std.proofs.lemmas.Grind.{div_ceil_times}

-- rounded down, a / b times b is at most a; rounded up, at least a
pub down_times : (a b : ℕ) → 0 < b → (a / b) * b ≤ a
down_times a b some = omega arith

pub up_times : (a b : ℕ) → 0 < b → a ≤ (div_ceil a b * b)
up_times a b some = (div_ceil_times a b some).0

-- a part of a conductance is at most the conductance
pub divided_within : (side : Side) (c b m : ℕ) → b ≤ m → 0 < m → divided side (c * b) m ≤ c
divided_within Low c b m less some = le_of_mul-le-mul_right (omega (arith, down_times (c * b) m some, mul-le-mul_left c less)) some
divided_within High c b m less some =
    let most : div_ceil (c * b) m * m < c * b + m = (div_ceil_times (c * b) m some).1 in
    below (div_ceil (c * b) m) c m (omega (arith, most, mul-le-mul_left c less))
  where
    below : (q c m : ℕ) → q * m < c * m + m → q ≤ c
    below q c m h = elim (cases_lt c q) [
      | inl lt ↦ absurd (omega (arith, h, mul-le-mul_right m (one_more c q lt)))
      | inr le ↦ le
    ]
      where
        one_more : (c q : ℕ) → c < q → c + 1 ≤ q
        one_more c q lt = omega arith

-- shares in whole numbers: where the higher head of two corners lies t above, the share (b + t) / (m + t) is no less than b / m
pub low_share : (m b t g r : ℕ) → g ≤ m + t → b + t ≤ r → b ≤ m → b * g ≤ r * m
low_share m b t g r gap rise less = omega (arith, mul-le-mul_left b gap, mul-le-mul_right m rise, mul-le-mul_left t less)

pub high_share : (m b t g r : ℕ) → r + t ≤ b → m ≤ g + t → b ≤ m → r * m ≤ b * g
high_share m b t g r rise gap less = omega (arith, mul-le-mul_right m rise, mul-le-mul_left b gap, mul-le-mul_left t less)
