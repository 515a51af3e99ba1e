use Rattle.decimal_input.proofs.Common.{◌≡◌, ℕ, ◌<◌, ◌^◌, arith, ℤ, pos, neg_ℤ, ◌*ℤ◌, ◌+ℤ◌, ◌≤ℤ◌, ◌<ℤ◌, ap, ◌∙◌, sym, suc, ◌*◌, ints, by_lt_z, Fraction, IsSignedFloor, IsSignedCeiling, EnclosesSigned}
use Rattle.decimal_input.proofs.Common.{opposite, IsOver, IsBetweenSigned, mul-le-mul_right, le_out}
use Rattle.decimal_input.specs.Fractions.{den, AtMost, Same}
use Rattle.decimal_input.proofs.Differences.{diffs, as_diff, same_diff}

pub mul_mono_right : (k : ℕ) (a b : ℤ) → a ≤ℤ b → (a *ℤ pos k) ≤ℤ (b *ℤ pos k)
mul_mono_right k a b h = omega (arith, ints, mul-le-mul_right k (le_out a b h))

pub last_factors_swap : (a b c : ℤ) → (a *ℤ b) *ℤ c ≡ (a *ℤ c) *ℤ b
last_factors_swap a b c = rw (as_diff a, as_diff b, as_diff c) (simp diffs (same_diff _ _ _ _ (omega arith)))

pub add_times : (b o k : ℤ) → (b +ℤ o) *ℤ k ≡ b *ℤ k +ℤ o *ℤ k
add_times b o k = rw (as_diff b, as_diff o, as_diff k) (simp diffs (same_diff _ _ _ _ (omega arith)))

pub one_times : (k : ℕ) → pos 1 *ℤ pos k ≡ pos k
one_times k = omega (arith, ints)

pub cancel_right : (k : ℕ) (a b : ℤ) → 0 < k → (a *ℤ pos k) ≤ℤ (b *ℤ pos k) → a ≤ℤ b
cancel_right k a b h le =
    by_lt_z b a
    (λ lt.
    let over = mul_mono_right k (b +ℤ pos 1) a (omega (arith, ints)) in
    let split = add_times b (pos 1) (pos k) ∙ ap (λ (t : ℤ). b *ℤ pos k +ℤ t) (one_times k) in
    absurd (omega (arith, ints)))
    (λ le. le)

pub neg_times : (a b : ℤ) → neg_ℤ a *ℤ b ≡ neg_ℤ (a *ℤ b)
neg_times a b = rw (as_diff a, as_diff b) (simp diffs (same_diff _ _ _ _ (omega arith)))

pub turned : (a b : ℤ) → a ≤ℤ b → neg_ℤ b ≤ℤ neg_ℤ a
turned a b h = omega (arith, ints)

-- Orders of whole numbers.
pub le-trans : (a b c : ℤ) → a ≤ℤ b → b ≤ℤ c → a ≤ℤ c
le-trans a b c p q = omega (arith, ints)

pub le-antisym : (a b : ℤ) → a ≤ℤ b → b ≤ℤ a → a ≡ b
le-antisym a b p q = omega (arith, ints)

pub le-of : (a b : ℤ) → a ≡ b → a ≤ℤ b
le-of a b e = omega (arith, ints)

pub lt-not-le : (a b : ℤ) → a <ℤ b → b ≤ℤ a → ⊥
lt-not-le a b p q = omega (arith, ints)

pub le-add : (a b c d : ℤ) → a ≤ℤ c → b ≤ℤ d → (a +ℤ b) ≤ℤ (c +ℤ d)
le-add a b c d h k = omega (arith, ints)

-- a / x ≤ b / y ≤ c / z
pub cross_trans_signed : (a b c : ℤ) (x y z : ℕ) → 0 < y → (a *ℤ pos y) ≤ℤ (b *ℤ pos x) → (b *ℤ pos z) ≤ℤ (c *ℤ pos y) → (a *ℤ pos z) ≤ℤ (c *ℤ pos x)
cross_trans_signed a b c x y z h p q =
    let low : ((a *ℤ pos z) *ℤ pos y) ≤ℤ ((b *ℤ pos z) *ℤ pos x) = rw (last_factors_swap a (pos z) (pos y), last_factors_swap b (pos z) (pos x)) (mul_mono_right z _ _ p) in
    let high : ((b *ℤ pos z) *ℤ pos x) ≤ℤ ((c *ℤ pos x) *ℤ pos y) = rw (last_factors_swap c (pos x) (pos y)) (mul_mono_right x _ _ q) in
    cancel_right y _ _ h (le-trans _ _ _ low high)

pub AtMost-trans : {f g h : Fraction} → AtMost f g → AtMost g h → AtMost f h
AtMost-trans {f} {g} {h} p q = record { at_most = cross_trans_signed f.num g.num h.num (den f) (den g) (den h) (omega arith) p.at_most q.at_most }

pub Same-AtMost : {f g : Fraction} → Same f g → AtMost f g
Same-AtMost p = record { at_most = le-of _ _ p.same }

pub Same-sym : {f g : Fraction} → Same f g → Same g f
Same-sym p = record { same = sym p.same }

pub AtMost-both : {f g : Fraction} → AtMost f g → AtMost g f → Same f g
AtMost-both p q = record { same = le-antisym _ _ p.at_most q.at_most }

pub Same-trans : {f g h : Fraction} → Same f g → Same g h → Same f h
Same-trans p q = AtMost-both (AtMost-trans (Same-AtMost p) (Same-AtMost q)) (AtMost-trans (Same-AtMost (Same-sym q)) (Same-AtMost (Same-sym p)))

-- The floor and the ceiling of a fraction enclose it.
pub floor_ceiling_enclose : (f : Fraction) (s : ℕ) (lo hi : ℤ) → IsSignedFloor lo f s → IsSignedCeiling hi f s → EnclosesSigned lo hi s f
floor_ceiling_enclose f s lo hi l h = record { lower = l.at_most; upper = h.at_least }

-- a * z ≤ b * x, so what is at most a / x is at most b / z
reaches : (v a b : ℤ) (x z : ℕ) → 0 < x → (v *ℤ pos x) ≤ℤ a → (a *ℤ pos z) ≤ℤ (b *ℤ pos x) → (v *ℤ pos z) ≤ℤ b
reaches v a b x z h p q = cancel_right x _ _ h (le-trans _ _ _ (rw (last_factors_swap v (pos z) (pos x)) (mul_mono_right z _ _ p)) q)

-- a * z ≤ b * x, so what is at least b / z is at least a / x
covers : (v a b : ℤ) (x z : ℕ) → 0 < z → b ≤ℤ (v *ℤ pos z) → (a *ℤ pos z) ≤ℤ (b *ℤ pos x) → a ≤ℤ (v *ℤ pos x)
covers v a b x z h p q = cancel_right z _ _ h (le-trans _ _ _ q (rw (last_factors_swap v (pos x) (pos z)) (mul_mono_right x _ _ p)))

-- f * p is at most g * p
moved : (f g : Fraction) (p : ℕ) → AtMost f g → ((f.num *ℤ pos p) *ℤ pos (den g)) ≤ℤ ((g.num *ℤ pos p) *ℤ pos (den f))
moved f g p h = rw (last_factors_swap f.num (pos p) (pos (den g)), last_factors_swap g.num (pos p) (pos (den f))) (mul_mono_right p _ _ h.at_most)

-- The floor doesn't fall where the fraction grows.
pub floor_monotone : (f g : Fraction) (s : ℕ) (x y : ℤ) → AtMost f g → IsSignedFloor x f s → IsSignedFloor y g s → x ≤ℤ y
floor_monotone f g s x y le a b =
    by_lt_z y x
    (λ lt.
    let over = le-trans _ _ _ (mul_mono_right (den f) (y +ℤ pos 1) x (omega (arith, ints))) a.at_most in
    absurd (lt-not-le _ _ b.next (reaches (y +ℤ pos 1) (f.num *ℤ pos (10 ^ s)) (g.num *ℤ pos (10 ^ s)) (den f) (den g) (omega arith) over (moved f g (10 ^ s) le))))
    (λ le. le)

-- The ceiling doesn't fall where the fraction grows.
pub ceiling_monotone : (f g : Fraction) (s : ℕ) (x y : ℤ) → AtMost f g → IsSignedCeiling x f s → IsSignedCeiling y g s → x ≤ℤ y
ceiling_monotone f g s x y le a b =
    by_lt_z y x
    (λ lt.
    let under = covers y (f.num *ℤ pos (10 ^ s)) (g.num *ℤ pos (10 ^ s)) (den f) (den g) (omega arith) b.at_least (moved f g (10 ^ s) le) in
    absurd (lt-not-le _ _ a.next (le-trans _ _ _ under (mul_mono_right (den f) y (x +ℤ neg_ℤ (pos 1)) (omega (arith, ints))))))
    (λ le. le)

-- Equal fractions have one floor.
pub one_floor : (f g : Fraction) (s : ℕ) (x y : ℤ) → Same f g → IsSignedFloor x f s → IsSignedFloor y g s → x ≡ y
one_floor f g s x y e a b = le-antisym x y (floor_monotone f g s x y (Same-AtMost e) a b) (floor_monotone g f s y x (Same-AtMost (Same-sym e)) b a)

-- Equal fractions have one ceiling.
pub one_ceiling : (f g : Fraction) (s : ℕ) (x y : ℤ) → Same f g → IsSignedCeiling x f s → IsSignedCeiling y g s → x ≡ y
one_ceiling f g s x y e a b = le-antisym x y (ceiling_monotone f g s x y (Same-AtMost e) a b) (ceiling_monotone g f s y x (Same-AtMost (Same-sym e)) b a)

-- A head or a flow between its bounds, over a common denominator.
pub whole_signed : (lo hi : ℤ) (s D : ℕ) (f : Fraction) (z : ℤ) → EnclosesSigned lo hi s f → IsOver D f z → IsBetweenSigned lo hi D (z *ℤ pos (10 ^ s))
whole_signed lo hi s D f z h e =
    let both : (f.num *ℤ pos (10 ^ s)) *ℤ pos D ≡ (z *ℤ pos (10 ^ s)) *ℤ pos (suc f.less) =
    last_factors_swap f.num (pos (10 ^ s)) (pos D) ∙ ap (λ (t : ℤ). t *ℤ pos (10 ^ s)) e.is ∙ last_factors_swap z (pos (suc f.less)) (pos (10 ^ s)) in
    record {
      lower = cancel_right (suc f.less) _ _ (omega arith) (rw (last_factors_swap lo (pos D) (pos (suc f.less)), ← both) (mul_mono_right D _ _ h.lower));
      upper = cancel_right (suc f.less) _ _ (omega arith) (rw (last_factors_swap hi (pos D) (pos (suc f.less)), ← both) (mul_mono_right D _ _ h.upper));
    }

-- With the other sign the bounds change their signs and places.
pub negated_enclosed : (lo hi : ℤ) (s : ℕ) (f : Fraction) → EnclosesSigned lo hi s f → EnclosesSigned (neg_ℤ hi) (neg_ℤ lo) s (opposite f)
negated_enclosed lo hi s f h = grind (arith, neg_times, turned)
