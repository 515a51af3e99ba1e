-- The steps of the loops over growing time steps.
use Rattle.conductance_bounds.proofs.Common.{◌≡◌, ℕ, zero, suc, ◌+◌, ◌*◌, ◌≤◌, ◌<◌, ◌^◌, inl, inr, arith, subst, ℤ, pos, negsuc, neg_ℤ, ◌+ℤ◌, ◌≤ℤ◌, int_max, mul-le-mul, cases_lt, ints, clamps, Dec}
use Rattle.conductance_bounds.proofs.Common.{size, scaled_ratio, up, down, Ratio, ratio, AtMost, AtMost-trans, Same-AtMost, Same-back, ten_pos, power_within, num_scaled, den_scaled, Sd, HasSize, IsSd}
use Rattle.conductance_bounds.proofs.Common.{one, Same, Span, value, Number, Sum, Product, sum_term, power_term, IsSlow, AreBounds, reach}
use Rattle.conductance_bounds.proofs.Arithmetic.{reach_within}

-- a decimal of at least 0.001 has an exponent of at least -20
slow_least : (m : ℕ) (e : ℤ) → m < 10 ^ 18 → AtMost (ratio 1 1000) (scaled_ratio m e) → neg_ℤ (pos 20) ≤ℤ e
unfolding ratio
slow_least m (pos n) few h = omega (arith, ints)
slow_least m (negsuc n) few h =
    let cross : 10 ^ suc n ≤ m * 1000 = omega (arith, (rw (num_scaled m (negsuc n), den_scaled m (negsuc n)) at h.cross)) in
    elim (cases_lt n 20) [
      | inl lt ↦ omega (arith, ints, lt)
      | inr le ↦ absurd (let big : 10 ^ 21 ≤ 10 ^ suc n = power_within 21 (suc n) (omega arith) in omega (arith, big, cross, few))
    ]

-- one of at most 1000 has an exponent of at most -14
slow_most : (m : ℕ) (e : ℤ) → 10 ^ 17 ≤ m → AtMost (scaled_ratio m e) (ratio 1000 1) → e ≤ℤ neg_ℤ (pos 14)
unfolding ratio
slow_most m (pos n) many h =
    let cross : m * 10 ^ n ≤ 1000 = omega (arith, (rw (num_scaled m (pos n), den_scaled m (pos n)) at h.cross)) in
    absurd (let big : 10 ^ 17 * 1 ≤ m * 10 ^ n = mul-le-mul many (ten_pos n) in omega (arith, big, cross))
slow_most m (negsuc n) many h =
    let cross : m ≤ 1000 * 10 ^ suc n = omega (arith, (rw (num_scaled m (negsuc n), den_scaled m (negsuc n)) at h.cross)) in
    elim (cases_lt n 13) [
      | inl lt ↦ absurd (let small : 10 ^ suc n ≤ 10 ^ 13 = power_within (suc n) 13 (omega (arith, lt)) in omega (arith, small, cross, many))
      | inr le ↦ omega (arith, ints, le)
    ]

no_zero : (m : ℕ) (e : ℤ) → m ≡ 0 → AtMost (ratio 1 1000) (scaled_ratio m e) → ⊥
unfolding ratio
no_zero m e z h = nothing m (10 ^ up e) (10 ^ down e) z (ten_pos (down e)) (rw (num_scaled m e, den_scaled m e) at h.cross)
  where
    nothing : (m p q : ℕ) → m ≡ 0 → 0 < q → 1 * q ≤ (m * p) * 1000 → ⊥
    nothing zero p q z some h = omega (arith, h, some)
    nothing (suc m) p q z some h = omega (arith, z)

pub multiplier_size : (x : Sd) (t : Dec) (n : ℕ) → IsSd x → Same (value x) (size t) → IsSlow t n → HasSize x (neg_ℤ (pos 20)) (neg_ℤ (pos 14))
multiplier_size x t n (inl d) same slow = record {
  positive = omega (arith, d.0);
  above = slow_least x.m x.e d.1 (AtMost-trans slow.least (Same-back same));
  below = slow_most x.m x.e d.0 (AtMost-trans (Same-AtMost same) slow.most);
}
multiplier_size x t n (inr z) same slow = absurd (no_zero x.m x.e z.0 (AtMost-trans slow.least (Same-back same)))

-- Horner's rule goes on by one step, and a power by one factor
pub sum_start : (t : Ratio) (x : Span) → AreBounds (Number one) x → AreBounds (sum_term t 0) x
unfolding sum_term
sum_start t x p = p

pub sum_next : (t : Ratio) (n : ℕ) (x : Span) → AreBounds (Sum (Product (sum_term t n) (Number t)) (Number one)) x → AreBounds (sum_term t (n + 1)) x
unfolding sum_term
sum_next t n x p = subst (λ k. AreBounds (sum_term t k) x) (let e : suc n ≡ n + 1 = omega arith in e) p

pub power_start : (t : Ratio) (x : Span) → AreBounds (Number one) x → AreBounds (power_term t 0) x
unfolding power_term
power_start t x p = p

pub power_next : (t : Ratio) (n : ℕ) (x : Span) → AreBounds (Product (power_term t n) (Number t)) x → AreBounds (power_term t (n + 1)) x
unfolding power_term
power_next t n x p = subst (λ k. AreBounds (power_term t k) x) (let e : suc n ≡ n + 1 = omega arith in e) p

-- the exponents after i steps
pub sizes_reach : (x : Span) (low high n : ℕ) → low ≤ n → high ≤ n → HasSize x.lo (neg_ℤ (pos low)) (pos high) → HasSize x.hi (neg_ℤ (pos low)) (pos high) → reach x ≤ n
sizes_reach x low high n p q l h = grind (arith, reach_within)

-- one step of Horner's rule: times T, plus 1
pub sum_size : (s t p o r : Sd) (i : ℕ) → HasSize s (neg_ℤ (pos 17)) (pos (5 * i)) → HasSize t (neg_ℤ (pos 20)) (neg_ℤ (pos 14)) → HasSize o (neg_ℤ (pos 17)) (neg_ℤ (pos 17)) →
    HasSize p (s.e +ℤ t.e +ℤ pos 17) (s.e +ℤ t.e +ℤ pos 18) → HasSize r (int_max p.e o.e) (int_max p.e o.e +ℤ pos 1) → HasSize r (neg_ℤ (pos 17)) (pos (5 * (i + 1)))
sum_size s t p o r i hs ht ho hp hr = record {
  positive = hr.positive;
  above = omega (arith, ints, clamps, hr.above, ho.above);
  below = omega (arith, ints, clamps, hr.below, hp.below, hs.below, ht.below, ho.below);
}

pub power_size : (s t r : Sd) (i : ℕ) → HasSize s (neg_ℤ (pos (17 + 3 * i))) (pos (4 * i)) → HasSize t (neg_ℤ (pos 20)) (neg_ℤ (pos 14)) → HasSize r (s.e +ℤ t.e +ℤ pos 17) (s.e +ℤ t.e +ℤ pos 18) →
    HasSize r (neg_ℤ (pos (17 + 3 * (i + 1)))) (pos (4 * (i + 1)))
power_size s t r i hs ht hr = record {
  positive = hr.positive;
  above = omega (arith, ints, hr.above, hs.above, ht.above);
  below = omega (arith, ints, hr.below, hs.below, ht.below);
}
