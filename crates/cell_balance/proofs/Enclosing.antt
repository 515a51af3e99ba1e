-- Sums of enclosed fractions, and their parts, are enclosed.
use Rattle.cell_balance.proofs.Common.{◌≡◌, ℕ, zero, suc, ◌*◌, ◌^◌, ◌<◌, refl, arith, List, [], ◌∷◌, Bool, true, false, map, ℤ, pos, neg_ℤ, ◌+ℤ◌, mul-pos, ◌≤ℤ◌, sym, ap, ◌∙◌, ◌*ℤ◌, ◌<ℤ◌, filter}
use Rattle.cell_balance.proofs.Common.{AllZip, int_max, ints, clamps, by_lt_z, Fraction, whole, opposite, fraction_total, EnclosesSigned, IsOver, den, plus, AtMost, Same, total, greater, sum_below}
use Rattle.cell_balance.proofs.Common.{total_below, sum_inside, total_inside, IsBelow, le-add, le-antisym, le-of, negated_enclosed, cancel_right, mul_mono_right, last_factors_swap, zero-*ℤ, mul_assoc}
use Rattle.cell_balance.proofs.Common.{mul_comm}
use Rattle.cell_balance.proofs.{Deep.add_mul, Scaling.IsOver-plus, Scaling.IsOver-greater, Scaling.IsOver-none, Scaling.max_times, Scaling.over_is_cross_product, Scaling.crossed_back}
use Rattle.cell_balance.proofs.{Enclosed.between_over, Denominators.Goes, Denominators.Goes-first, Denominators.Goes-second, Denominators.fraction_over}

-- Fractions and their whole numbers over one denominator: order, signs, equality, and sums over cells; single flows and their bounds.
pub over_le : (d : ℕ) (f g : Fraction) (a b : ℤ) → IsOver d f a → IsOver d g b → AtMost f g → a ≤ℤ b
over_le d f g a b p q h =
    cancel_right (den f * den g) a b (omega arith)
    (rw (over_is_cross_product d f a (den g) p, crossed_back d f g b q) at (mul_mono_right d _ _ h.at_most))

pub le_over : (d : ℕ) (f g : Fraction) (a b : ℤ) → 0 < d → IsOver d f a → IsOver d g b → a ≤ℤ b → AtMost f g
le_over d f g a b some p q h = record {
  at_most = cancel_right d _ _ some (rw (over_is_cross_product d f a (den g) p, crossed_back d f g b q) (mul_mono_right (den f * den g) a b h));
}

pub IsOver-below : (d n : ℕ) (f : ℕ → Fraction) (g : ℕ → ℤ) → ((k : ℕ) → k < n → IsOver d (f k) (g k)) → IsOver d (total_below n f) (sum_below n g)
IsOver-below d zero f g each = IsOver-none d
IsOver-below d (suc n) f g each = IsOver-plus d (total_below n f) (f n) (sum_below n g) (g n) (IsOver-below d n f g (λ k i. each k (omega arith))) (each n (omega arith))

pub IsOver-inside : (d n : ℕ) (inside : ℕ → Bool) (f : ℕ → Fraction) (g : ℕ → ℤ) → ((k : ℕ) → k < n → IsOver d (f k) (g k)) → IsOver d (total_inside n inside f) (sum_inside n inside g)
IsOver-inside d n inside f g each = grind (arith, IsOver-below)

-- equal whole numbers over one denominator are one fraction
pub same_over : (d : ℕ) (f g : Fraction) (a b : ℤ) → 0 < d → IsOver d f a → IsOver d g b → a ≡ b → Same f g
same_over d f g a b some p q e = record {
  same = le-antisym _ _ (le_over d f g a b some p q (le-of a b e)).at_most (le_over d g f b a some q p (le-of b a (sym e))).at_most;
}

-- the sign of a fraction
pub negative_over : (d : ℕ) (f : Fraction) (a : ℤ) → 0 < d → IsOver d f a → a ≤ℤ pos 0 → f.num ≤ℤ pos 0
negative_over d f a some p h = cancel_right d f.num (pos 0) some (rw (p.is, zero-*ℤ) (rw zero-*ℤ at (mul_mono_right (den f) a (pos 0) h)))

pub negative_below : (d : ℕ) (f : Fraction) (a : ℤ) → 0 < d → IsOver d f a → a <ℤ pos 0 → f.num <ℤ pos 0
negative_below d f a some p h = grind (arith, by_lt_z, cancel_right, mul_mono_right)

pub positive_above : (d : ℕ) (f : Fraction) (a : ℤ) → 0 < d → IsOver d f a → pos 0 <ℤ a → pos 0 <ℤ f.num
positive_above d f a some p h = grind (arith, by_lt_z, cancel_right, mul_mono_right)

-- a number below another, over one denominator
pub below_over : (d : ℕ) (f g : Fraction) (a b : ℤ) → 0 < d → IsOver d f a → IsOver d g b → IsBelow f g → a <ℤ b
below_over d f g a b some p q h =
    by_lt_z a b (λ lt. lt) (λ le. absurd (omega (arith, ints, h.below, (le_over d g f b a some q p le).at_most)))

-- bounds of the whole number are bounds of the fraction
pub enclosed_over : (lo hi : ℤ) (s n : ℕ) (f : Fraction) (z : ℤ) → 0 < n → IsOver (n * 10 ^ s) f z → (lo *ℤ pos n) ≤ℤ z → z ≤ℤ (hi *ℤ pos n) → EnclosesSigned lo hi s f
enclosed_over lo hi s n f z some e low high =
    let both : (f.num *ℤ pos (10 ^ s)) *ℤ pos n ≡ z *ℤ pos (den f) = mul_assoc f.num (pos (10 ^ s)) (pos n) ∙ ap (λ (k : ℕ). f.num *ℤ pos k) (mul_comm (10 ^ s) n) ∙ e.is in
    record {
      lower = cancel_right n _ _ some (rw (last_factors_swap lo (pos (den f)) (pos n), both) (mul_mono_right (den f) _ _ low));
      upper = cancel_right n _ _ some (rw (last_factors_swap hi (pos (den f)) (pos n), both) (mul_mono_right (den f) _ _ high));
    }

same : (a : ℕ) → Goes a a
same a = (1, omega arith)

pub plus_encloses : (a b c d : ℤ) (k : ℕ) (f g : Fraction) → EnclosesSigned a b k f → EnclosesSigned c d k g → EnclosesSigned (a +ℤ c) (b +ℤ d) k (plus f g)
plus_encloses a b c d k f g p q =
    let n = den f * den g in
    let (y, over_f) = fraction_over n (10 ^ k) f (Goes-first (den f) (den g)) in
    let (z, over_g) = fraction_over n (10 ^ k) g (Goes-second (den f) (den g)) in
    let in_f = between_over a b k n f y p over_f in
    let in_g = between_over c d k n g z q over_g in
    enclosed_over (a +ℤ c) (b +ℤ d) k n (plus f g) (y +ℤ z) (mul-pos (omega arith) (omega arith)) (IsOver-plus (n * 10 ^ k) f g y z over_f over_g)
    (rw add_mul (le-add _ _ _ _ in_f.lower in_g.lower)) (rw add_mul (le-add _ _ _ _ in_f.upper in_g.upper))

pub none_encloses : (k : ℕ) → EnclosesSigned (pos 0) (pos 0) k (whole (pos 0))
none_encloses k = enclosed_over (pos 0) (pos 0) k 1 (whole (pos 0)) (pos 0) (omega arith) (IsOver-none (1 * 10 ^ k)) (omega (arith, ints)) (omega (arith, ints))

-- what of an enclosed flow goes in is its positive part, and what goes out that of the negated flow
pub in_encloses : (a b : ℤ) (k : ℕ) (f : Fraction) → EnclosesSigned a b k f → EnclosesSigned (int_max a (pos 0)) (int_max b (pos 0)) k (greater f (whole (pos 0)))
in_encloses a b k f p =
    let n = den f in
    let (z, over) = fraction_over n (10 ^ k) f (same (den f)) in
    let inside = between_over a b k n f z p over in
    enclosed_over _ _ k n (greater f (whole (pos 0))) (int_max z (pos 0)) (omega arith) (IsOver-greater (n * 10 ^ k) f (whole (pos 0)) z (pos 0) over (IsOver-none (n * 10 ^ k)))
    (rw (max_times, zero-*ℤ) (omega (arith, ints, clamps, inside.lower))) (rw (max_times, zero-*ℤ) (omega (arith, ints, clamps, inside.upper)))

pub out_encloses : (a b : ℤ) (k : ℕ) (f : Fraction) → EnclosesSigned a b k f → EnclosesSigned (int_max (neg_ℤ b) (pos 0)) (int_max (neg_ℤ a) (pos 0)) k (greater (opposite f) (whole (pos 0)))
out_encloses a b k f h = in_encloses (neg_ℤ b) (neg_ℤ a) k (opposite f) (negated_enclosed a b k f h)

-- over lists that are related place by place
pub total_encloses : {X Y : Type 0} (R : X → Y → Type 0) (lo hi : X → ℤ) (k : ℕ) (f : Y → Fraction) →
    ((x : X) (y : Y) → R x y → EnclosesSigned (lo x) (hi x) k (f y)) → (xs : List X) (ys : List Y) → AllZip R xs ys →
    EnclosesSigned (total lo xs) (total hi xs) k (fraction_total f ys)
total_encloses R lo hi k f each [] [] h = none_encloses k
total_encloses R lo hi k f each (x ∷ xs) (y ∷ ys) h = plus_encloses _ _ _ _ k (f y) (fraction_total f ys) (each x y h.0) (total_encloses R lo hi k f each xs ys h.1)
total_encloses _ lo hi k f each _ _ h = absurd h

-- over the cells below a number
pub below_encloses : (n : ℕ) (lo hi : ℕ → ℤ) (k : ℕ) (f : ℕ → Fraction) → ((c : ℕ) → c < n → EnclosesSigned (lo c) (hi c) k (f c)) →
    EnclosesSigned (sum_below n lo) (sum_below n hi) k (total_below n f)
below_encloses zero lo hi k f each = none_encloses k
below_encloses (suc n) lo hi k f each = plus_encloses _ _ _ _ k (total_below n f) (f n) (below_encloses n lo hi k f (λ c h. each c (omega arith))) (each n (omega arith))

-- what a test keeps of related lists is related, where it tests both the same
kept : {X Y : Type 0} (R : X → Y → Type 0) (p : X → Bool) (q : Y → Bool) (x : X) (y : Y) (xs : List X) (ys : List Y) (a : Bool) → p x ≡ a → q y ≡ a → R x y →
    AllZip R (filter p xs) (filter q ys) → AllZip R (filter p (x ∷ xs)) (filter q (y ∷ ys))
kept R p q x y xs ys true e d r h = rw (e, d) (r, h)
kept R p q x y xs ys false e d r h = rw (e, d) h

pub AllZip-filter : {X Y : Type 0} (R : X → Y → Type 0) (p : X → Bool) (q : Y → Bool) → ((x : X) (y : Y) → R x y → p x ≡ q y) → (xs : List X) (ys : List Y) →
    AllZip R xs ys → AllZip R (filter p xs) (filter q ys)
AllZip-filter R p q agree [] [] h = tt
AllZip-filter R p q agree (x ∷ xs) (y ∷ ys) h = kept R p q x y xs ys (q y) (agree x y h.0) refl h.0 (AllZip-filter R p q agree xs ys h.1)
AllZip-filter _ p q agree _ _ h = absurd h

pub AllZip-map : {X Y V W : Type 0} (R : X → Y → Type 0) (S : V → W → Type 0) (f : X → V) (g : Y → W) → ((x : X) (y : Y) → R x y → S (f x) (g y)) →
    (xs : List X) (ys : List Y) → AllZip R xs ys → AllZip S (map f xs) (map g ys)
AllZip-map R S f g each [] [] h = tt
AllZip-map R S f g each (x ∷ xs) (y ∷ ys) h = (each x y h.0, AllZip-map R S f g each xs ys h.1)
AllZip-map _ _ f g each _ _ h = absurd h
