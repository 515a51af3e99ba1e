-- Order laws of the least and the greatest flow over a conductance that is known by bounds.
use Rattle.step_problem.proofs.Common.{◌≡◌, ℕ, zero, suc, ◌*◌, ◌≤◌, refl, ap, ◌∙◌, arith, ℤ, pos, negsuc, neg_ℤ, ◌*ℤ◌, ◌≤ℤ◌, ◌+ℤ◌, ◌-ℤ◌, mul-le-mul_left, ◌<ℤ◌, mul-le-mul_right, ints, least, most}
use Rattle.step_problem.proofs.Common.{le_out, Side, Low, High, bound_on, branch_flow}
pub use Rattle.decimal_input.proofs.{Differences.as_diff, Differences.diffs, Differences.same_diff, FloorLaws.neg_times as neg_mul}

-- Ring laws and order laws of whole numbers, by differences of natural ones.
pub mul_add : (a b c : ℤ) → a *ℤ (b +ℤ c) ≡ a *ℤ b +ℤ a *ℤ c
mul_add a b c = rw (as_diff a, as_diff b, as_diff c) (simp diffs (same_diff _ _ _ _ (omega arith)))

pub mul_sub : (a b c : ℤ) → a *ℤ (b -ℤ c) ≡ a *ℤ b -ℤ a *ℤ c
mul_sub a b c = rw (as_diff a, as_diff b, as_diff c) (simp diffs (same_diff _ _ _ _ (omega arith)))

pub mul_assoc : (a b c : ℤ) → (a *ℤ b) *ℤ c ≡ a *ℤ (b *ℤ c)
mul_assoc a b c = rw (as_diff a, as_diff b, as_diff c) (simp diffs (same_diff _ _ _ _ (omega arith)))

pub mul_mono : (c : ℕ) (a b : ℤ) → a ≤ℤ b → (pos c *ℤ a) ≤ℤ (pos c *ℤ b)
mul_mono c a b h = omega (arith, ints, mul-le-mul_left c (le_out a b h))

-- a product with a sign that is known
pub mul_nonneg : (a b : ℤ) → pos 0 ≤ℤ a → pos 0 ≤ℤ b → pos 0 ≤ℤ (a *ℤ b)
mul_nonneg (pos a) (pos b) p q = omega (arith, ints)
mul_nonneg (pos a) (negsuc b) p q = absurd (omega (arith, ints))
mul_nonneg (negsuc a) b p q = absurd (omega (arith, ints))

pub mul_le : (a b c : ℤ) → pos 0 ≤ℤ c → a ≤ℤ b → (c *ℤ a) ≤ℤ (c *ℤ b)
mul_le a b (pos c) p q = mul_mono c a b q
mul_le a b (negsuc c) p q = absurd (omega (arith, ints))

-- both flows rise with the difference of heads
pub least_rises : (lo hi : ℕ) (a b : ℤ) → a ≤ℤ b → least lo hi a ≤ℤ least lo hi b
least_rises lo hi (pos a) (pos b) h = let k : lo * a ≤ lo * b = mul-le-mul_left lo (omega (arith, ints)) in omega (arith, ints)
least_rises lo hi (pos a) (negsuc b) h = absurd (omega (arith, ints))
least_rises lo hi (negsuc a) (pos b) h = omega (arith, ints)
least_rises lo hi (negsuc a) (negsuc b) h = let k : hi * suc b ≤ hi * suc a = mul-le-mul_left hi (omega (arith, ints)) in omega (arith, ints)

pub most_rises : (lo hi : ℕ) (a b : ℤ) → a ≤ℤ b → most lo hi a ≤ℤ most lo hi b
most_rises lo hi (pos a) (pos b) h = let k : hi * a ≤ hi * b = mul-le-mul_left hi (omega (arith, ints)) in omega (arith, ints)
most_rises lo hi (pos a) (negsuc b) h = absurd (omega (arith, ints))
most_rises lo hi (negsuc a) (pos b) h = omega (arith, ints)
most_rises lo hi (negsuc a) (negsuc b) h = let k : lo * suc b ≤ lo * suc a = mul-le-mul_left lo (omega (arith, ints)) in omega (arith, ints)

-- the greatest flow is the least one turned round
pub most_is : (lo hi : ℕ) (d : ℤ) → most lo hi d ≡ neg_ℤ (least lo hi (neg_ℤ d))
most_is lo hi (pos zero) = omega (arith, ints)
most_is lo hi (pos (suc n)) = omega (arith, ints)
most_is lo hi (negsuc n) = refl

-- the flow over a difference of heads is that over one of the two bounds
pub flow_up : (side : Side) (lo hi k : ℕ) (d : ℤ) → lo ≤ hi → k ≡ bound_on side lo hi → pos 0 ≤ℤ d → (branch_flow side lo hi d ≡ pos k *ℤ d) × (k ≤ hi)
flow_up Low lo hi k (pos n) le is h = (rw is refl, omega (arith, is))
flow_up High lo hi k (pos n) le is h = (rw is refl, omega (arith, is))
flow_up side lo hi k (negsuc n) le is h = absurd (omega (arith, ints))

pub flow_down : (side : Side) (lo hi k : ℕ) (d : ℤ) → lo ≤ hi → k ≡ bound_on side hi lo → d <ℤ pos 0 → (branch_flow side lo hi d ≡ pos k *ℤ d) × (k ≤ hi)
flow_down side lo hi k (pos n) le is h = absurd (omega (arith, ints))
flow_down Low lo hi k (negsuc n) le is h = (rw is (omega (arith, ints)), omega (arith, is))
flow_down High lo hi k (negsuc n) le is h = (rw is (omega (arith, ints)), omega (arith, is))

-- signs and products
pub mul_neg : (a b : ℤ) → a *ℤ neg_ℤ b ≡ neg_ℤ (a *ℤ b)
mul_neg a b = rw (as_diff a, as_diff b) (simp diffs (same_diff _ _ _ _ (omega arith)))

turn : (c n d : ℤ) → (c *ℤ n) *ℤ d ≡ c *ℤ (d *ℤ n)
turn c n d = rw (as_diff c, as_diff n, as_diff d) (simp diffs (same_diff _ _ _ _ (omega arith)))

least_scaled : (lo hi k : ℕ) (d : ℤ) → least lo hi d *ℤ pos k ≡ least (lo * k) (hi * k) d
least_scaled lo hi k (pos n) = ap pos (omega arith)
least_scaled lo hi k (negsuc n) = neg_mul (pos (hi * suc n)) (pos k) ∙ ap (λ (j : ℕ). neg_ℤ (pos j)) (omega arith)

-- the least flow is at most that over any conductance between the bounds
pub least_below : (lo hi c : ℕ) (d : ℤ) → lo ≤ c → c ≤ hi → least lo hi d ≤ℤ (pos c *ℤ d)
least_below lo hi c (pos n) p q = let h : lo * n ≤ c * n = mul-le-mul_right n p in omega (arith, ints)
least_below lo hi c (negsuc n) p q = let h : c * suc n ≤ hi * suc n = mul-le-mul_right (suc n) q in omega (arith, ints)

-- the same where conductances stand over a denominator m and heads over n
pub least_times : (lo hi c m n : ℕ) (d : ℤ) → lo * m ≤ c → c ≤ hi * m → (least lo hi d *ℤ pos (m * n)) ≤ℤ (pos c *ℤ (d *ℤ pos n))
least_times lo hi c m n d p q =
    let below : lo * (m * n) ≤ c * n = omega (arith, mul-le-mul_right n p) in
    let above : c * n ≤ hi * (m * n) = omega (arith, mul-le-mul_right n q) in
    let e : pos (c * n) *ℤ d ≡ pos c *ℤ (d *ℤ pos n) = turn (pos c) (pos n) d in
    rw (least_scaled, ← e) (least_below _ _ _ d below above)

pub most_times : (lo hi c m n : ℕ) (d : ℤ) → lo * m ≤ c → c ≤ hi * m → (pos c *ℤ (d *ℤ pos n)) ≤ℤ (most lo hi d *ℤ pos (m * n))
most_times lo hi c m n d p q =
    rw (most_is, neg_mul) (omega (arith, ints, rw (neg_mul, mul_neg) at (least_times lo hi c m n (neg_ℤ d) p q)))
