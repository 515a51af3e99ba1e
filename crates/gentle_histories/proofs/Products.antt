-- A flow of two conductances that are alike, over two falls of head that are near: one is above the other by at most a rate over d.
use Rattle.gentle_histories.proofs.Common.{◌≡◌, ℕ, suc, ◌+◌, ◌*◌, ◌<◌, ◌≤◌, ℤ, pos, negsuc, neg_ℤ, ◌+ℤ◌, ◌*ℤ◌, ◌≤ℤ◌, [], ◌∷◌, subst, arith, mul-pos, mul-le-mul_left, ints, Fraction, IsOver, Ratio}
use Rattle.gentle_histories.proofs.Common.{as_fraction, whole, AtMost, times, den, neg_times, over_le, IsOver-times, over_multiple, mul_add, mul_mono, among, common_denominator_exists, ratio_over}
use Rattle.decimal_input.proofs.Differences.{as_diff, diffs, same_diff}
use Rattle.gentle_histories.proofs.{Grows.AreAlike, Near.IsNear, Near.near_of, Near.near_to}

-- f is at most k in magnitude
pub record IsWithinWhole (k : ℕ) (f : Fraction) : Type 0 where
  pub low : AtMost (whole (neg_ℤ (pos k))) f
  pub high : AtMost f (whole (pos k))

-- so over a denominator
within_over : (k M : ℕ) (f : Fraction) (z : ℤ) → IsOver M f z → IsWithinWhole k f → ((neg_ℤ (pos k) *ℤ pos M) ≤ℤ z) × (z ≤ℤ (pos k *ℤ pos M))
within_over k M f z o within = (over_le M _ _ _ _ (whole_over (neg_ℤ (pos k))) o within.low, over_le M _ _ _ _ o (whole_over (pos k)) within.high)
  where
    by_one : (x : ℤ) → x ≡ x *ℤ pos 1
    by_one x = omega (arith, ints)

    whole_over : (n : ℤ) → IsOver M (whole n) (n *ℤ pos M)
    whole_over n = record { is = by_one (n *ℤ pos M) }

-- the conductances differ
conductances : (P Q d n k R M : ℕ) (z : ℤ) → P * d ≤ (d + n) * Q → Q * d ≤ (d + n) * P → P ≤ R → Q ≤ R → (neg_ℤ (pos k) *ℤ pos M) ≤ℤ z → z ≤ℤ (pos k *ℤ pos M) →
    (pos (P * d) *ℤ z) ≤ℤ (pos (Q * d) *ℤ z +ℤ pos (n * k * R * M))
conductances P Q d n k R M (pos x) there back p q low high =
    let le : x ≤ k * M = omega (arith, ints, high) in
    omega (arith, ints, mul-le-mul_left x there, mul-le-mul_left (n * x) q, mul-le-mul_left (n * R) le)
conductances P Q d n k R M (negsuc x) there back p q low high =
    let le : suc x ≤ k * M = omega (arith, ints, low, neg_times (pos k) (pos M)) in
    omega (arith, ints, mul-le-mul_left (suc x) back, mul-le-mul_left (n * suc x) p, mul-le-mul_left (n * R) le)

-- the falls differ
falls : (Q d R M : ℕ) (z y : ℤ) → Q ≤ R → (z *ℤ pos d) ≤ℤ (y *ℤ pos d +ℤ pos 1 *ℤ pos M) → (pos (Q * d) *ℤ z) ≤ℤ (pos (Q * d) *ℤ y +ℤ pos (R * M))
falls Q d R M z y q le =
    omega (arith, ints, mul_mono Q _ _ le, mul_add (pos Q) (y *ℤ pos d) (pos 1 *ℤ pos M), inside (pos Q) (pos d) z, inside (pos Q) (pos d) y, mul-le-mul_left M q)
  where
    inside : (q d z : ℤ) → q *ℤ (z *ℤ d) ≡ (q *ℤ d) *ℤ z
    inside q d z = rw (as_diff q, as_diff d, as_diff z) (simp diffs (same_diff _ _ _ _ (omega arith)))

turned : (u z v d : ℤ) → ((u *ℤ z) *ℤ v) *ℤ d ≡ ((u *ℤ v) *ℤ d) *ℤ z
turned u z v d = rw (as_diff u, as_diff z, as_diff v, as_diff d) (simp diffs (same_diff _ _ _ _ (omega arith)))

-- Conductances C and D that are at most g and by n / d alike, a fall f of at most k in magnitude, and one that isn't lower by more than 1 / d.
pub product_near : (C D : Ratio) (d n g k : ℕ) (f f' : Fraction) → 0 < d → AreAlike (d + n) d C D → C.num ≤ g * den C → D.num ≤ g * den D →
    IsWithinWhole k f → IsNear d 1 f f' → IsNear d (g * (n * k + 1)) (times (as_fraction C) f) (times (as_fraction D) f')
product_near C D d n g k f f' some alike small small' within near =
    let (M, more, at) = common_denominator_exists 2 (among (f ∷ f' ∷ [])) in
    let (z, oz) = at 0 (omega arith) in
    let (y, oy) = at 1 (omega arith) in
    let (low, high) = within_over k M f z oz within in
    let V = den C in
    let W = den D in
    let left = over_multiple (V * M) W _ _ (IsOver-times V M (as_fraction C) f (pos C.num) z (ratio_over C) oz) in
    let right = over_multiple (W * M) V _ _ (IsOver-times W M (as_fraction D) f' (pos D.num) y (ratio_over D) oy) in
    near_of d some (g * (n * k + 1)) (V * M * W) _ _ _ _ (mul-pos (mul-pos (omega arith) more) (omega arith)) left
    (subst (λ (e : ℕ). IsOver e (times (as_fraction D) f') ((pos D.num *ℤ y) *ℤ pos V)) (let e : W * M * V ≡ V * M * W = omega arith in e) right)
    (joined C.num C.less D.num D.less M z y (near_to d some 1 M f f' z y oz oy near) low high alike.there.cross alike.back.cross small small')
  where
    joined : (U v U' v' M : ℕ) (z y : ℤ) → (z *ℤ pos d) ≤ℤ (y *ℤ pos d +ℤ pos 1 *ℤ pos M) → (neg_ℤ (pos k) *ℤ pos M) ≤ℤ z → z ≤ℤ (pos k *ℤ pos M) →
        U * suc v' * d ≤ (d + n) * (U' * suc v) → U' * suc v * d ≤ (d + n) * (U * suc v') → U ≤ g * suc v → U' ≤ g * suc v' →
        (((pos U *ℤ z) *ℤ pos (suc v')) *ℤ pos d) ≤ℤ (((pos U' *ℤ y) *ℤ pos (suc v)) *ℤ pos d +ℤ pos (g * (n * k + 1)) *ℤ pos (suc v * M * suc v'))
    joined U v U' v' M z y near low high there back small small' =
        let R = g * suc v * suc v' in
        let p : U * suc v' ≤ R = omega (arith, mul-le-mul_left (suc v') small) in
        let q : U' * suc v ≤ R = omega (arith, mul-le-mul_left (suc v) small') in
        omega (
          arith,
          ints,
          conductances (U * suc v') (U' * suc v) d n k R M z there back p q low high,
          falls (U' * suc v) d R M z y q near,
          turned (pos U) z (pos (suc v')) (pos d),
          turned (pos U') y (pos (suc v)) (pos d),
        )
