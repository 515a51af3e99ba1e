use Rattle.scaled_decimal.proofs.Common.{ℕ, ◌+◌, ◌*◌, ◌-◌, ◌≤◌, ◌<◌, ◌^◌, inl, inr, arith, ℤ, ◌≤ℤ◌, ints, clamps, mul-le-mul_right, Sd, IsSd, HasSize, IsWithin}

pub size_has_18_digits : (x : Sd) → IsSd x → 0 < x.m → (10 ^ 17 ≤ x.m) × (x.m < 10 ^ 18)
size_has_18_digits x (inl d) h = d
size_has_18_digits x (inr d) h = absurd (omega (arith, d.0))

pub HasSize-wider : (r : Sd) (a b g h : ℤ) → g ≤ℤ a → b ≤ℤ h → HasSize r a b → HasSize r g h
HasSize-wider r a b g h p q s = record { positive = s.positive; above = omega (arith, ints); below = omega (arith, ints) }

pub HasSize-within : (r : Sd) (a b g h : ℤ) → g ≤ℤ a → b ≤ℤ h → HasSize r a b → IsWithin r.e g h
HasSize-within r a b g h p q s = record { above = omega (arith, ints, clamps, s.above); below = omega (arith, ints, clamps, s.below) }

-- a sum of two numbers of 18 digits, where one stands u units higher
pub sum_below : (m n u : ℕ) → m < 10 ^ 18 → n < 10 ^ 18 → 0 < u → m * u + n ≤ (10 ^ 18 - 1) * 2 * u
sum_below m n u hm hn hu = grind (arith, mul-le-mul_right)

pub sum_digits : (m n u : ℕ) → 10 ^ 17 ≤ m → 0 < n → 0 < u → 10 ^ 17 ≤ m * u + n - 1
sum_digits m n u hm hn hu = grind (arith, mul-le-mul_right)
