-- A number between two enclosed ones lies between the outer bounds.
use Rattle.deck_span.proofs.Common.{◌≡◌, ℕ, ◌*◌, ◌^◌, ◌≤◌, ◌<◌, ◌⊎◌, inl, inr, refl, arith, ℤ, pos, ◌*ℤ◌, ◌≤ℤ◌, ◌+ℤ◌, ints, clamps, Ratio, Fraction, as_fraction, Encloses, EnclosesSigned, IsOver, den}
use Rattle.deck_span.proofs.Common.{AtMost, plus, mul_mono_right, IsFractionBetween, IsRatioBetween, LiesBetween, min, max, IsHullPair, AtMost-refl, times-AtMost, over-AtMost, le_over, over_le}
use Rattle.deck_span.proofs.Common.{mul-pos, own_share, cross_trans_signed}
use Rattle.decimal_input.specs.{over as size_over, Fractions.times, Ratios.den as ratio_den, Ratios.AtMost as IsRatioAtMost, Ratios.times as size_times}
use Rattle.cell_balance.proofs.{Deep.le_trans_z, Denominators.fraction_over, Scaling.IsOver-plus, Scaling.IsOver-signed, Scaling.IsOver-times}
use Rattle.std.specs.Int.{int_min, int_max}

-- Numbers that are made from numbers between two others.
pub at_most_is_reflexive : (f : Fraction) → AtMost f f
at_most_is_reflexive f = record { at_most = omega (arith, ints) }

pub number_itself : (f : Fraction) → IsFractionBetween f f f
number_itself f = record { lies = inl (at_most_is_reflexive f, at_most_is_reflexive f) }

pub size_itself : (f : Ratio) → IsRatioBetween f f f
size_itself f = record { lies = inl (AtMost-refl f, AtMost-refl f) }

-- what keeps the order keeps what lies between
pub between_image : {X Y : Type 0} (R : X → X → Type 0) (S : Y → Y → Type 0) (u : X → Y) → ((f g : X) → R f g → S (u f) (u g)) → (f g h : X) → LiesBetween R f g h → LiesBetween S (u f) (u g) (u h)
between_image R S u keeps f g h b = record { lies = elim b.lies [ inl o ↦ inl (keeps f g o.0, keeps g h o.1) | inr o ↦ inr (keeps h g o.0, keeps g f o.1) ] }

-- four fractions over the product of their denominators
pub record AreOver (d : ℕ) (f g h k : Fraction) : Type 0 where
  pub some : 0 < d
  pub a : ℤ
  pub f_over : IsOver d f a
  pub b : ℤ
  pub g_over : IsOver d g b
  pub p : ℤ
  pub h_over : IsOver d h p
  pub q : ℤ
  pub k_over : IsOver d k q

abbrev pub den_of : Fraction → Fraction → Fraction → Fraction → ℕ
den_of f g h k = den f * den g * den h * den k * 1

pub over_all : (f g h k : Fraction) → AreOver (den_of f g h k) f g h k
over_all f g h k =
    let (a, f_over) = fraction_over (den f * den g * den h * den k) 1 f (den g * den h * den k, omega arith) in
    let (b, g_over) = fraction_over (den f * den g * den h * den k) 1 g (den f * den h * den k, omega arith) in
    let (p, h_over) = fraction_over (den f * den g * den h * den k) 1 h (den f * den g * den k, omega arith) in
    let (q, k_over) = fraction_over (den f * den g * den h * den k) 1 k (den f * den g * den h, omega arith) in
    record {
      some = mul-pos (mul-pos (mul-pos (mul-pos (omega arith) (omega arith)) (omega arith)) (omega arith)) (omega arith);
      a = a;
      f_over = f_over;
      b = b;
      g_over = g_over;
      p = p;
      h_over = h_over;
      q = q;
      k_over = k_over;
    }

-- a product with a fraction that isn't negative
pub times_keeps : (r : Ratio) (f g : Fraction) → AtMost f g → AtMost (times f (as_fraction r)) (times g (as_fraction r))
times_keeps r f g h =
    let o = over_all f g f g in
    let d = den_of f g f g in
    let share = IsOver-signed (ratio_den r) r r.num (own_share r) in
    le_over (d * ratio_den r) (times f (as_fraction r)) (times g (as_fraction r)) (o.a *ℤ pos r.num) (o.b *ℤ pos r.num) (mul-pos o.some (omega arith))
    (IsOver-times d (ratio_den r) f (as_fraction r) o.a (pos r.num) o.f_over share) (IsOver-times d (ratio_den r) g (as_fraction r) o.b (pos r.num) o.g_over share)
    (mul_mono_right r.num o.a o.b (over_le d f g o.a o.b o.f_over o.g_over h))

-- a sum with a fraction
pub plus_keeps : (k f g : Fraction) → AtMost f g → AtMost (plus f k) (plus g k)
plus_keeps k f g h =
    let o = over_all f g k k in
    let d = den_of f g k k in
    let le = over_le d f g o.a o.b o.f_over o.g_over h in
    le_over d (plus f k) (plus g k) (o.a +ℤ o.p) (o.b +ℤ o.p) o.some (IsOver-plus d f k o.a o.p o.f_over o.h_over) (IsOver-plus d g k o.b o.p o.g_over o.h_over) (omega (arith, ints))

-- the rate over an area and a depth
pub rate_keeps : (area depth : Ratio) → 0 < depth.num → (f g : Ratio) → IsRatioAtMost f g → IsRatioAtMost (size_over (size_times f area) depth) (size_over (size_times g area) depth)
rate_keeps area depth some f g h = over-AtMost {a = size_times f area} {b = size_times g area} {c = depth} {d = depth} some some
    (times-AtMost {a = f} {b = g} {c = area} {d = area} h (AtMost-refl area)) (AtMost-refl depth)

-- a lower bound goes down, an upper one up
lower_down : (lo l : ℤ) (e : ℕ) (z : ℤ) → lo ≤ℤ l → (l *ℤ pos e) ≤ℤ z → (lo *ℤ pos e) ≤ℤ z
lower_down lo l e z h p = le_trans_z _ _ _ (mul_mono_right e _ _ h) p

upper_up : (hi u : ℤ) (e : ℕ) (z : ℤ) → u ≤ℤ hi → z ≤ℤ (u *ℤ pos e) → z ≤ℤ (hi *ℤ pos e)
upper_up hi u e z h p = le_trans_z _ _ _ p (mul_mono_right e _ _ h)

pub numbers_enclose : {a b c d : ℤ} (s : ℕ) (f g h : Fraction) → EnclosesSigned a b s f → EnclosesSigned c d s h → IsFractionBetween f g h → EnclosesSigned (int_min a c) (int_max b d) s g
numbers_enclose {a} {b} {c} {d} s f g h p q m = by_order m.lies
  where
    up : (x y : ℤ) (u : Fraction) → EnclosesSigned x y s u → AtMost u g → (x *ℤ pos (den g)) ≤ℤ (g.num *ℤ pos (10 ^ s))
    up x y u e o = cross_trans_signed x u.num g.num (10 ^ s) (den u) (den g) (omega arith) e.lower o.at_most

    down : (x y : ℤ) (u : Fraction) → EnclosesSigned x y s u → AtMost g u → (g.num *ℤ pos (10 ^ s)) ≤ℤ (y *ℤ pos (den g))
    down x y u e o = cross_trans_signed g.num u.num y (den g) (den u) (10 ^ s) (omega arith) o.at_most e.upper

    by_order : ((AtMost f g × AtMost g h) ⊎ (AtMost h g × AtMost g f)) → EnclosesSigned (int_min a c) (int_max b d) s g
    by_order (inl o) = record {
      lower = lower_down (int_min a c) a (den g) _ (omega (arith, ints, clamps)) (up a b f p o.0);
      upper = upper_up (int_max b d) d (den g) _ (omega (arith, ints, clamps)) (down c d h q o.1);
    }
    by_order (inr o) = record {
      lower = lower_down (int_min a c) c (den g) _ (omega (arith, ints, clamps)) (up c d h q o.0);
      upper = upper_up (int_max b d) b (den g) _ (omega (arith, ints, clamps)) (down a b f p o.1);
    }

pub hull_of_numbers : (a b c d lo hi : ℤ) (s : ℕ) (f g h : Fraction) → IsHullPair a b c d lo hi → EnclosesSigned a b s f → EnclosesSigned c d s h → IsFractionBetween f g h → EnclosesSigned lo hi s g
hull_of_numbers a b c d lo hi s f g h is p q m = rw (is.low, is.high) (numbers_enclose s f g h p q m)

signed_at_most : (f g : Ratio) → IsRatioAtMost f g → AtMost (as_fraction f) (as_fraction g)
signed_at_most f g h = record { at_most = omega (arith, ints, h.cross) }

signed_between : (f g h : Ratio) → IsRatioBetween f g h → IsFractionBetween (as_fraction f) (as_fraction g) (as_fraction h)
signed_between f g h = between_image IsRatioAtMost AtMost as_fraction signed_at_most f g h

-- the same of numbers that aren't negative
pub sizes_enclose : {a b c d : ℕ} (s : ℕ) (f g h : Ratio) → Encloses a b s f → Encloses c d s h → IsRatioBetween f g h → Encloses (min a c) (max b d) s g
sizes_enclose {a} {b} {c} {d} s f g h p q m =
    let first : EnclosesSigned (pos a) (pos b) s (as_fraction f) = record { lower = omega (arith, ints, p.lower); upper = omega (arith, ints, p.upper) } in
    let second : EnclosesSigned (pos c) (pos d) s (as_fraction h) = record { lower = omega (arith, ints, q.lower); upper = omega (arith, ints, q.upper) } in
    let low : pos (min a c) ≡ int_min (pos a) (pos c) = omega (arith, ints, clamps) in
    let high : pos (max b d) ≡ int_max (pos b) (pos d) = omega (arith, ints, clamps) in
    let e : EnclosesSigned (pos (min a c)) (pos (max b d)) s (as_fraction g) =
    rw (low, high) (numbers_enclose s (as_fraction f) (as_fraction g) (as_fraction h) first second (signed_between f g h m)) in
    record { lower = omega (arith, ints, e.lower); upper = omega (arith, ints, e.upper) }
