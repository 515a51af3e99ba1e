-- Arithmetic of fractions goes over to whole numbers over a common denominator.
use Rattle.cell_balance.proofs.Common.{◌≡◌, ℕ, zero, suc, ◌+◌, ◌*◌, ◌<◌, sym, ap, ◌∙◌, arith, ℤ, pos, neg_ℤ, ◌+ℤ◌, ◌-ℤ◌, ◌*ℤ◌, List, [], ◌∷◌, ◌≤◌, refl, negsuc, ◌≤ℤ◌, ◌<ℤ◌, AllZip, int_max, int_min}
use Rattle.cell_balance.proofs.Common.{ints, clamps, by_lt_z, zero-*ℤ, Ratio, Fraction, whole, as_fraction, opposite, fraction_total, IsOver, IsShare, den, plus, times, diffs, as_diff, same_diff}
use Rattle.cell_balance.proofs.Common.{mul_mono, mul_add, neg_mul, total, minus, greater, lesser, mul_mono_right, last_factors_swap, mul-le-mul_right, *ℤ_comm}

-- Order laws of products with whole conductances, and what holds at a cell whose excess over its solution is the greatest, on either side.
-- a product with a positive number is zero only where the other factor is
pub zero_factor : (c : ℕ) (a : ℤ) → 0 < c → pos c *ℤ a ≡ pos 0 → a ≡ pos 0
zero_factor c (pos n) h e = let k : 1 * n ≤ c * n = mul-le-mul_right n h in omega (arith, ints)
zero_factor c (negsuc n) h e = let k : 1 * suc n ≤ c * suc n = mul-le-mul_right (suc n) h in absurd (omega (arith, ints))

pub not_zero : (m : ℤ) → pos 0 <ℤ m → m ≡ pos 0 → ⊥
not_zero m h q = omega (arith, ints)

-- a positive factor cancels in an inequality
pub cancel_le : (c : ℕ) (a b : ℤ) → 0 < c → (pos c *ℤ a) ≤ℤ (pos c *ℤ b) → a ≤ℤ b
cancel_le c a b h k =
    by_lt_z b a
    (λ lt.
    let over = mul_mono c (b +ℤ pos 1) a (omega (arith, ints)) in
    let split = mul_add (pos c) b (pos 1) in
    absurd (omega (arith, ints)))
    (λ le. le)

-- a number above 0, times a whole number above 0
pub positive_times : (z : ℤ) (k : ℕ) → 0 < k → pos 0 <ℤ z → pos 0 <ℤ (z *ℤ pos k)
positive_times z k some h = omega (arith, ints, mul_mono_right k (pos 1) z (omega (arith, ints)))

-- a share of a conductance of 0
pub none_shared : (k c : ℕ) (r : Ratio) → r.num ≡ 0 → IsShare k r c → c ≡ 0
none_shared k zero r e s = refl
none_shared k (suc c) r e s = let t : r.num * k ≡ 0 * k = ap (λ (z : ℕ). z * k) e in absurd (omega (arith, s.is, t))

-- what certainly conducts in the bounds conducts
pub conducting : (m lo c : ℕ) → 0 < m → 0 < lo → lo * m ≤ c → 0 < c
conducting m lo c d h k = let q : 1 * m ≤ lo * m = mul-le-mul_right m h in omega arith

-- a number above 0, as a natural one
pub positive_natural : (z : ℤ) → pos 0 <ℤ z → (s : ℕ) × (0 < s) × (z ≡ pos s)
positive_natural (pos s) h = (s, omega (arith, ints), refl)
positive_natural (negsuc s) h = absurd (omega (arith, ints))

den_product : (f g : Fraction) → pos (suc (f.less * g.less + f.less + g.less)) ≡ pos (den f) *ℤ pos (den g)
den_product f g = ap pos (omega arith)

sum_ring : (a b x y d : ℤ) → (a *ℤ y +ℤ b *ℤ x) *ℤ d ≡ (a *ℤ d) *ℤ y +ℤ (b *ℤ d) *ℤ x
sum_ring a b x y d = rw (as_diff a, as_diff b, as_diff x, as_diff y, as_diff d) (simp diffs (same_diff _ _ _ _ (omega arith)))

sum_back : (a b x y : ℤ) → (a *ℤ x) *ℤ y +ℤ (b *ℤ y) *ℤ x ≡ (a +ℤ b) *ℤ (x *ℤ y)
sum_back a b x y = rw (as_diff a, as_diff b, as_diff x, as_diff y) (simp diffs (same_diff _ _ _ _ (omega arith)))

pub IsOver-plus : (d : ℕ) (f g : Fraction) (a b : ℤ) → IsOver d f a → IsOver d g b → IsOver d (plus f g) (a +ℤ b)
IsOver-plus d f g a b p q = grind (arith, sum_ring, sum_back, den_product)

product_ring : (a b c d : ℤ) → (a *ℤ b) *ℤ (c *ℤ d) ≡ (a *ℤ c) *ℤ (b *ℤ d)
product_ring a b c d = rw (as_diff a, as_diff b, as_diff c, as_diff d) (simp diffs (same_diff _ _ _ _ (omega arith)))

pub IsOver-times : (d n : ℕ) (f g : Fraction) (a b : ℤ) → IsOver d f a → IsOver n g b → IsOver (d * n) (times f g) (a *ℤ b)
IsOver-times d n f g a b p q = record {
  is = product_ring f.num g.num (pos d) (pos n) ∙ rw (p.is, q.is) (product_ring a (pos (den f)) b (pos (den g)) ∙ ap (λ (k : ℤ). (a *ℤ b) *ℤ k) (sym (den_product f g)));
}

pub IsOver-negated : (d : ℕ) (f : Fraction) (a : ℤ) → IsOver d f a → IsOver d (opposite f) (neg_ℤ a)
IsOver-negated d f a p = record { is = neg_mul f.num (pos d) ∙ ap neg_ℤ p.is ∙ sym (neg_mul a (pos (den f))) }

pub IsOver-minus : (d : ℕ) (f g : Fraction) (a b : ℤ) → IsOver d f a → IsOver d g b → IsOver d (minus f g) (a -ℤ b)
IsOver-minus d f g a b p q = rw (sub_is a b) (IsOver-plus d f (opposite g) a (neg_ℤ b) p (IsOver-negated d g b q))
  where
    sub_is : (a b : ℤ) → a -ℤ b ≡ a +ℤ neg_ℤ b
    sub_is a b = omega (arith, ints)

pub IsOver-none : (d : ℕ) → IsOver d (whole (pos 0)) (pos 0)
IsOver-none d = record { is = zero-*ℤ (pos d) }

pub IsOver-signed : (d : ℕ) (r : Ratio) (n : ℕ) → IsShare d r n → IsOver d (as_fraction r) (pos n)
IsOver-signed d r n h = record { is = ap pos h.is }

-- the greater of two numbers, times a whole number
pub max_times : (k : ℕ) (a b : ℤ) → int_max a b *ℤ pos k ≡ int_max (a *ℤ pos k) (b *ℤ pos k)
max_times k a b =
    by_lt_z a b
    (λ h. let e : int_max a b ≡ b = omega (arith, ints, clamps) in let m = mul_mono_right k a b (omega (arith, ints)) in ap (λ (z : ℤ). z *ℤ pos k) e ∙ omega (arith, ints, clamps))
    (λ h. let e : int_max a b ≡ a = omega (arith, ints, clamps) in let m = mul_mono_right k b a h in ap (λ (z : ℤ). z *ℤ pos k) e ∙ omega (arith, ints, clamps))

pub min_times : (k : ℕ) (a b : ℤ) → int_min a b *ℤ pos k ≡ int_min (a *ℤ pos k) (b *ℤ pos k)
min_times k a b =
    by_lt_z a b
    (λ h. let e : int_min a b ≡ a = omega (arith, ints, clamps) in let m = mul_mono_right k a b (omega (arith, ints)) in ap (λ (z : ℤ). z *ℤ pos k) e ∙ omega (arith, ints, clamps))
    (λ h. let e : int_min a b ≡ b = omega (arith, ints, clamps) in let m = mul_mono_right k b a h in ap (λ (z : ℤ). z *ℤ pos k) e ∙ omega (arith, ints, clamps))

-- f crossed with the other denominator, over d
pub over_is_cross_product : (d : ℕ) (f : Fraction) (a : ℤ) (k : ℕ) → IsOver d f a → (f.num *ℤ pos k) *ℤ pos d ≡ a *ℤ (pos (den f) *ℤ pos k)
over_is_cross_product d f a k p = last_factors_swap f.num (pos k) (pos d) ∙ ap (λ (z : ℤ). z *ℤ pos k) p.is ∙ assoc a (pos (den f)) (pos k)
  where
    assoc : (a b c : ℤ) → (a *ℤ b) *ℤ c ≡ a *ℤ (b *ℤ c)
    assoc a b c = rw (as_diff a, as_diff b, as_diff c) (simp diffs (same_diff _ _ _ _ (omega arith)))

pub crossed_back : (d : ℕ) (f g : Fraction) (b : ℤ) → IsOver d g b → (g.num *ℤ pos (den f)) *ℤ pos d ≡ b *ℤ (pos (den f) *ℤ pos (den g))
crossed_back d f g b q = over_is_cross_product d g b (den f) q ∙ ap (λ (k : ℤ). b *ℤ k) (*ℤ_comm (pos (den g)) (pos (den f)))

pub IsOver-greater : (d : ℕ) (f g : Fraction) (a b : ℤ) → IsOver d f a → IsOver d g b → IsOver d (greater f g) (int_max a b)
IsOver-greater d f g a b p q = grind (arith, max_times, over_is_cross_product, crossed_back, den_product)

pub IsOver-lesser : (d : ℕ) (f g : Fraction) (a b : ℤ) → IsOver d f a → IsOver d g b → IsOver d (lesser f g) (int_min a b)
IsOver-lesser d f g a b p q = grind (arith, min_times, over_is_cross_product, crossed_back, den_product)

pub IsOver-total : {X Y : Type 0} (R : X → Y → Type 0) (d : ℕ) (f : X → Fraction) (g : Y → ℤ) → ((x : X) (y : Y) → R x y → IsOver d (f x) (g y)) →
    (xs : List X) (ys : List Y) → AllZip R xs ys → IsOver d (fraction_total f xs) (total g ys)
IsOver-total R d f g each [] [] h = IsOver-none d
IsOver-total R d f g each (x ∷ xs) (y ∷ ys) h = IsOver-plus d (f x) (fraction_total f xs) (g y) (total g ys) (each x y h.0) (IsOver-total R d f g each xs ys h.1)
IsOver-total _ d f g each _ _ h = absurd h

-- a fraction that is zero is zero over any d
pub zero_over : (d : ℕ) (f : Fraction) (z : ℤ) → IsOver d f z → f.num ≡ pos 0 → z ≡ pos 0
zero_over d f z h e = grind (arith, zero_factor)

-- and one that is zero over d is zero
pub over_zero : (d : ℕ) (f : Fraction) → 0 < d → IsOver d f (pos 0) → f.num ≡ pos 0
over_zero d f some h = zero_factor d f.num some (*ℤ_comm (pos d) f.num ∙ h.is ∙ zero-*ℤ (pos (den f)))
