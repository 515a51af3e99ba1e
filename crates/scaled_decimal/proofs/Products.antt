use Rattle.scaled_decimal.proofs.Common.{◌≡◌, ℕ, ◌+◌, ◌*◌, ◌<◌, ◌^◌, arith, refl, ℤ, ◌+ℤ◌, inr, pos, Ratio, times, AtMost, Below, Same, scaled_ratio, up, down, AtMost-trans, Below-AtMost}
use Rattle.scaled_decimal.proofs.Common.{AtMost-Below, Same-AtMost, Same-back, ten_pos, scaled_times, scaled-AtMost, num_scaled, den_scaled, Sd, value, IsDown, IsUp, IsFrom, IsUpTo, lt_right, ◌≤◌}
use Rattle.scaled_decimal.proofs.Common.{subst, mul-le-mul_right, den, plus, AtMost-refl, Same-trans, plus-AtMost, num_plus, den_plus, Same-both, plus-comm, product_positive}
use Rattle.scaled_decimal.proofs.Nearest.{zero-AtMost, carry_keeps_ratio}

pub scaled-Below : (m n : ℕ) (e : ℤ) → m < n → Below (scaled_ratio m e) (scaled_ratio n e)
scaled-Below m n e h = record {
  cross = rw (num_scaled, num_scaled, den_scaled, den_scaled) (lt_right (10 ^ down e) (m * 10 ^ up e) (n * 10 ^ up e) (ten_pos (down e)) (lt_right (10 ^ up e) m n (ten_pos (up e)) h));
}

-- f is q units
pub exact_from : (f : Ratio) (q : ℕ) (e : ℤ) → Same f (scaled_ratio q e) → IsFrom q e f
exact_from f q e h = record {
  from = Same-back h;
  before = AtMost-Below (Same-AtMost h) (scaled-Below q (q + 1) e (omega arith));
}

pub exact_up_to : (f : Ratio) (p q : ℕ) (e : ℤ) → q ≡ p + 1 → Same f (scaled_ratio q e) → IsUpTo p e f
exact_up_to f p q e hq h = record {
  after = Below-AtMost (scaled-Below p q e (omega arith)) (Same-back h);
  up_to = AtMost-trans (Same-AtMost h) (scaled-AtMost q (p + 1) e (omega arith));
}

pub zero_is_at_most : (m n : ℕ) (d e : ℤ) → m ≡ 0 → AtMost (scaled_ratio m d) (scaled_ratio n e)
zero_is_at_most m n d e h = record { cross = rw (num_scaled, h) (omega arith) }

pub zero_down : (r : Sd) (f : Ratio) → r.m ≡ 0 → r.e ≡ pos 0 → AtMost f (value r) → IsDown r f
zero_down r f hm he h = record { decimal = inr (hm, he); at_most = zero-AtMost r f hm; greatest = λ x _ le. AtMost-trans le h }

pub zero_up : (r : Sd) (f : Ratio) → r.m ≡ 0 → r.e ≡ pos 0 → AtMost f (value r) → IsUp r f
zero_up r f hm he h = record { decimal = inr (hm, he); at_least = h; least = λ x _ _. zero-AtMost r (value x) hm }

pub no_product : (m n k : ℕ) (d e g : ℤ) → m * n ≡ 0 → AtMost (times (scaled_ratio m d) (scaled_ratio n e)) (scaled_ratio k g)
no_product m n k d e g h = AtMost-trans (Same-AtMost (scaled_times m n d e)) (zero_is_at_most (m * n) k (d +ℤ e) g h)

pub scaled_times_at : (m n : ℕ) (d e g : ℤ) → g ≡ d +ℤ e → Same (times (scaled_ratio m d) (scaled_ratio n e)) (scaled_ratio (m * n) g)
scaled_times_at m n d e g h = rw h (scaled_times m n d e)

pub nothing_same : (m n : ℕ) (d e : ℤ) → m ≡ 0 → n ≡ 0 → Same (scaled_ratio m d) (scaled_ratio n e)
nothing_same m n d e hm hn = record { cross = rw (num_scaled, num_scaled, hm, hn) (omega arith) }

-- a whole number of units, with the exponent as the code has it
pub exact_from_at : (q : ℕ) (g e : ℤ) → g ≡ e → IsFrom q g (scaled_ratio q e)
exact_from_at q g e h = rw h (exact_from (scaled_ratio q e) q e (record { cross = refl }))

pub exact_up_to_at : (p q : ℕ) (g e : ℤ) → q ≡ p + 1 → g ≡ e → IsUpTo p g (scaled_ratio q e)
exact_up_to_at p q g e hq h = rw h (exact_up_to (scaled_ratio q e) p q e hq (record { cross = refl }))

cross_plus_below : (a x b y c z d w : ℕ) → 0 < x * y → a * y ≤ b * x → c * w < d * z → (a * z + c * x) * (y * w) < (b * w + d * y) * (x * z)
cross_plus_below a x b y c z d w h p q = omega (arith, mul-le-mul_right (z * w) p, lt_right (x * y) (c * w) (d * z) h q)

pub plus-Below : {a b c d : Ratio} → AtMost a b → Below c d → Below (plus a c) (plus b d)
plus-Below {a} {b} {c} {d} p q = grind (arith, num_plus, den_plus, cross_plus_below, product_positive)

grown : (a x b y : ℕ) → a * (x * y) ≤ (a * y + b * x) * x
grown a x b y = omega arith

pub more_plus : (f g : Ratio) → AtMost f (plus f g)
more_plus f g = record { cross = rw (num_plus, den_plus) (grown f.num (den f) g.num (den g)) }

risen : (a x b y : ℕ) → 0 < x → 0 < b → a * (x * y) < (a * y + b * x) * x
risen a x b y hx hb = omega (arith, lt_right x 0 (b * x) hx (omega (arith, lt_right x 0 b hx hb)))

pub less_plus : (f g : Ratio) → 0 < g.num → Below f (plus f g)
less_plus f g h = record { cross = rw (num_plus, den_plus) (risen f.num (den f) g.num (den g) (omega arith) h) }

pub plus_nothing : (f g : Ratio) → g.num ≡ 0 → AtMost (plus f g) f
plus_nothing f g h = record { cross = rw (num_plus, den_plus, h) (omega arith) }

pub scaled_plus : (m n : ℕ) (e : ℤ) → Same (plus (scaled_ratio m e) (scaled_ratio n e)) (scaled_ratio (m + n) e)
scaled_plus m n e = record { cross = rw (num_plus, den_plus, num_scaled m e, num_scaled n e, num_scaled (m + n) e, den_scaled m e, den_scaled n e, den_scaled (m + n) e) (omega arith) }

-- the sum over the finer unit
pub aligned : (m n k : ℕ) (d e : ℤ) → d ≡ e +ℤ pos k → Same (plus (scaled_ratio m d) (scaled_ratio n e)) (scaled_ratio (m * 10 ^ k + n) e)
aligned m n k d e h = Same-trans
    (Same-both (plus-AtMost (Same-back (carry_keeps_ratio m k d e h)) (AtMost-refl (scaled_ratio n e))) (plus-AtMost (Same-AtMost (carry_keeps_ratio m k d e h)) (AtMost-refl (scaled_ratio n e))))
    (scaled_plus (m * 10 ^ k) n e)

-- n units of 10 ^ e are less than one of 10 ^ d
below_one : (n k : ℕ) (d e : ℤ) → d ≡ e +ℤ pos k → n < 10 ^ k → Below (scaled_ratio n e) (scaled_ratio 1 d)
below_one n k d e h lt = Below-AtMost (scaled-Below n (1 * 10 ^ k) e (omega arith)) (Same-AtMost (carry_keeps_ratio 1 k d e h))

pub far_from : (m n k : ℕ) (d e : ℤ) → d ≡ e +ℤ pos k → n < 10 ^ k → IsFrom m d (plus (scaled_ratio m d) (scaled_ratio n e))
far_from m n k d e h lt = record {
  from = more_plus (scaled_ratio m d) (scaled_ratio n e);
  before = Below-AtMost (plus-Below (AtMost-refl (scaled_ratio m d)) (below_one n k d e h lt)) (Same-AtMost (scaled_plus m 1 d));
}

pub far_up_to : (m n k : ℕ) (d e g : ℤ) → d ≡ g +ℤ pos 1 → g ≡ e +ℤ pos k → n < 10 ^ k → 0 < n → IsUpTo (m * 10) g (plus (scaled_ratio m d) (scaled_ratio n e))
far_up_to m n k d e g hd hg lt hn = record {
  after = AtMost-Below (Same-AtMost (carry_keeps_ratio m 1 d g hd)) (less_plus (scaled_ratio m d) (scaled_ratio n e) (rw num_scaled (omega (arith, lt_right (10 ^ up e) 0 n (ten_pos (up e)) hn))));
  up_to = AtMost-trans (plus-AtMost (Same-back (carry_keeps_ratio m 1 d g hd)) (below (below_one n k g e hg lt))) (Same-AtMost (scaled_plus (m * 10 ^ 1) 1 g));
}
  where
    below : {f g : Ratio} → Below f g → AtMost f g
    below p = record { cross = omega (arith, p.cross) }

pub left_nothing : (m n : ℕ) (d e : ℤ) → m ≡ 0 → AtMost (plus (scaled_ratio m d) (scaled_ratio n e)) (scaled_ratio n e)
left_nothing m n d e h = let P : Ratio → Type 0 = λ k. AtMost k (scaled_ratio n e) in subst P (plus-comm (scaled_ratio n e) (scaled_ratio m d))
    (plus_nothing (scaled_ratio n e) (scaled_ratio m d) (rw (num_scaled, h) (omega arith)))

pub right_nothing : (m n : ℕ) (d e : ℤ) → n ≡ 0 → AtMost (plus (scaled_ratio m d) (scaled_ratio n e)) (scaled_ratio m d)
right_nothing m n d e h = plus_nothing (scaled_ratio m d) (scaled_ratio n e) (rw (num_scaled, h) (omega arith))

pub more_plus_left : (f g : Ratio) → AtMost g (plus f g)
more_plus_left f g = subst (AtMost g) (plus-comm g f) (more_plus g f)

-- the same, with the power and the exponent as the code has them
pub aligned_at : (m n k t : ℕ) (d e g : ℤ) → t ≡ 10 ^ k → g ≡ e → d ≡ e +ℤ pos k → Same (plus (scaled_ratio m d) (scaled_ratio n e)) (scaled_ratio (m * t + n) g)
aligned_at m n k t d e g ht hg h = rw (ht, hg) (aligned m n k d e h)
