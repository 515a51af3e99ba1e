use Rattle.decimal_input.proofs.Common.{◌≡◌, ℕ, ◌+◌, ◌*◌, ◌≤◌, ◌<◌, arith, mul-le-mul, mul-le-mul_right, le_of_mul-le-mul_right}

-- a / x ≤ b / y ≤ c / z
pub cross_trans : (a x b y c z : ℕ) → 0 < y → a * y ≤ b * x → b * z ≤ c * y → a * z ≤ c * x
cross_trans a x b y c z h p q =
    le_of_mul-le-mul_right {k = y} (omega (arith, mul-le-mul_right z p, mul-le-mul_right x q)) h

pub lt_right : (k m n : ℕ) → 0 < k → m < n → m * k < n * k
lt_right k m n h p = omega (arith, mul-le-mul_right k p)

pub lt_cancel : (k m n : ℕ) → m * k < n * k → m < n
lt_cancel k m n h = grind (arith, mul-le-mul_right)

pub le_cancel : (k m n : ℕ) → 0 < k → m * k ≤ n * k → m ≤ n
le_cancel k m n h p = grind (arith, le_of_mul-le-mul_right)

pub cross_below : (a x b y c z : ℕ) → 0 < z → a * y < b * x → b * z ≤ c * y → a * z < c * x
cross_below a x b y c z h p q =
    lt_cancel y (a * z) (c * x) (omega (arith, lt_right z _ _ h p, mul-le-mul_right x q))

pub cross_at_most : (a x b y c z : ℕ) → 0 < x → a * y ≤ b * x → b * z < c * y → a * z < c * x
cross_at_most a x b y c z h p q =
    lt_cancel y (a * z) (c * x) (omega (arith, mul-le-mul_right z p, lt_right x _ _ h q))

pub cross_times : (a x b y c z d w : ℕ) → a * y ≤ b * x → c * w ≤ d * z → (a * c) * (y * w) ≤ (b * d) * (x * z)
cross_times a x b y c z d w p q = omega (arith, mul-le-mul p q)

pub cross_plus : (a x b y c z d w : ℕ) → a * y ≤ b * x → c * w ≤ d * z → (a * z + c * x) * (y * w) ≤ (b * w + d * y) * (x * z)
cross_plus a x b y c z d w p q = omega (arith, mul-le-mul_right (z * w) p, mul-le-mul_right (x * y) q)

pub cross_same : (a x b y c z : ℕ) → 0 < y → a * y ≡ b * x → b * z ≡ c * y → a * z ≡ c * x
cross_same a x b y c z h p q =
    let up : a * z ≤ c * x = cross_trans a x b y c z h (omega arith) (omega arith) in
    let down : c * x ≤ a * z = cross_trans c z b y a x h (omega arith) (omega arith) in
    omega arith
