-- Fractions of which one is above another one by at most k / d.
use Rattle.gentle_histories.proofs.Common.{share_is_over, ◌≡◌, ℕ, ◌+◌, ◌*◌, ◌<◌, ◌≤◌, suc, ℤ, pos, ◌+ℤ◌, ◌*ℤ◌, ◌≤ℤ◌, subst, arith, mul-pos, [], ◌∷◌, by_lt_z, clamps, ints, Fraction, IsOver, Ratio}
use Rattle.gentle_histories.proofs.Common.{as_fraction, opposite, AtMost, plus, times, add_times, mul_mono_right, neg_times, share, lesser, greater, le_over, over_le, IsOver-plus, IsOver-times}
use Rattle.gentle_histories.proofs.Common.{IsOver-negated, IsOver-lesser, IsOver-greater, over_multiple, mul_add, mul_assoc, mul_mono, among, common_denominator_exists, ratio_over}
use Rattle.std.specs.Int.{int_max, int_min}
use Rattle.decimal_input.specs.Ratios.{den as ratio_den}

-- f is at most g and k / d
pub record IsNear (d k : ℕ) (f g : Fraction) : Type 0 where
  pub near : AtMost f (plus g (share d (pos k)))

module _ (d : ℕ) (some : 0 < d) where
  sum_over : (k M : ℕ) (g : Fraction) (b : ℤ) → IsOver M g b → IsOver (M * d) (plus g (share d (pos k))) (b *ℤ pos d +ℤ pos k *ℤ pos M)
  sum_over k M g b og = IsOver-plus (M * d) _ _ _ _ (over_multiple M d g b og)
      (subst (λ (n : ℕ). IsOver n (share d (pos k)) (pos k *ℤ pos M)) (let e : d * M ≡ M * d = omega arith in e) (over_multiple d M (share d (pos k)) (pos k) (share_is_over d (pos k) some)))

  pub near_of : (k M : ℕ) (f g : Fraction) (a b : ℤ) → 0 < M → IsOver M f a → IsOver M g b → (a *ℤ pos d) ≤ℤ (b *ℤ pos d +ℤ pos k *ℤ pos M) → IsNear d k f g
  near_of k M f g a b more of og le = record { near = le_over (M * d) _ _ _ _ (mul-pos more some) (over_multiple M d f a of) (sum_over k M g b og) le }

  pub near_to : (k M : ℕ) (f g : Fraction) (a b : ℤ) → IsOver M f a → IsOver M g b → IsNear d k f g → (a *ℤ pos d) ≤ℤ (b *ℤ pos d +ℤ pos k *ℤ pos M)
  near_to k M f g a b of og h = over_le (M * d) _ _ _ _ (over_multiple M d f a of) (sum_over k M g b og) h.near

  pub near_order : (k : ℕ) (f g : Fraction) → AtMost f g → IsNear d k f g
  near_order k f g le =
      let (M, more, at) = common_denominator_exists 2 (among (f ∷ g ∷ [])) in
      let (a, oa) = at 0 (omega arith) in
      let (b, ob) = at 1 (omega arith) in
      near_of k M f g a b more oa ob (omega (arith, ints, mul_mono_right d a b (over_le M f g a b oa ob le)))

  pub near_weaker : (k l : ℕ) (f g : Fraction) → k ≤ l → IsNear d k f g → IsNear d l f g
  near_weaker k l f g le h =
      let (M, more, at) = common_denominator_exists 2 (among (f ∷ g ∷ [])) in
      let (a, oa) = at 0 (omega arith) in
      let (b, ob) = at 1 (omega arith) in
      near_of l M f g a b more oa ob (omega (arith, ints, near_to k M f g a b oa ob h, mul_mono_right M (pos k) (pos l) (omega (arith, ints, le))))

  pub near_plus : (k l : ℕ) (f f' g g' : Fraction) → IsNear d k f f' → IsNear d l g g' → IsNear d (k + l) (plus f g) (plus f' g')
  near_plus k l f f' g g' p q =
      let (M, more, at) = common_denominator_exists 4 (among (f ∷ f' ∷ g ∷ g' ∷ [])) in
      let (a, oa) = at 0 (omega arith) in
      let (b, ob) = at 1 (omega arith) in
      let (c, oc) = at 2 (omega arith) in
      let (e, oe) = at 3 (omega arith) in
      near_of (k + l) M _ _ _ _ more (IsOver-plus M f g a c oa oc) (IsOver-plus M f' g' b e ob oe)
      (omega (arith, ints, near_to k M f f' a b oa ob p, near_to l M g g' c e oc oe q, add_times a c (pos d), add_times b e (pos d)))

  pub near_opposite : (k : ℕ) (f g : Fraction) → IsNear d k f g → IsNear d k (opposite g) (opposite f)
  near_opposite k f g h =
      let (M, more, at) = common_denominator_exists 2 (among (f ∷ g ∷ [])) in
      let (a, oa) = at 0 (omega arith) in
      let (b, ob) = at 1 (omega arith) in
      near_of k M _ _ _ _ more (IsOver-negated M g b ob) (IsOver-negated M f a oa)
      (omega (arith, ints, near_to k M f g a b oa ob h, neg_times a (pos d), neg_times b (pos d)))

  pub near_times : (r : Ratio) (k : ℕ) (f g : Fraction) → IsNear d k f g → IsNear d (r.num * k) (times (as_fraction r) f) (times (as_fraction r) g)
  near_times r k f g h =
      let (M, more, at) = common_denominator_exists 2 (among (f ∷ g ∷ [])) in
      let (a, oa) = at 0 (omega arith) in
      let (b, ob) = at 1 (omega arith) in
      near_of (r.num * k) (ratio_den r * M) _ _ _ _ (mul-pos (omega arith) more) (IsOver-times (ratio_den r) M _ _ _ _ (ratio_over r) oa)
      (IsOver-times (ratio_den r) M _ _ _ _ (ratio_over r) ob)
      (scaled r.num r.less k M a b (near_to k M f g a b oa ob h))
    where
      scaled : (n D k M : ℕ) (a b : ℤ) → (a *ℤ pos d) ≤ℤ (b *ℤ pos d +ℤ pos k *ℤ pos M) →
          ((pos n *ℤ a) *ℤ pos d) ≤ℤ ((pos n *ℤ b) *ℤ pos d +ℤ pos (n * k) *ℤ pos (suc D * M))
      scaled n D k M a b le =
          omega (arith, ints, mul_mono n _ _ le, mul_add (pos n) (b *ℤ pos d) (pos k *ℤ pos M), mul_assoc (pos n) a (pos d), mul_assoc (pos n) b (pos d))

  pub near_lesser : (k : ℕ) (f g x : Fraction) → IsNear d k f g → IsNear d k (lesser f x) (lesser g x)
  near_lesser k f g x h =
      let (M, more, at) = common_denominator_exists 3 (among (f ∷ g ∷ x ∷ [])) in
      let (a, oa) = at 0 (omega arith) in
      let (b, ob) = at 1 (omega arith) in
      let (c, oc) = at 2 (omega arith) in
      let le = near_to k M f g a b oa ob h in
      near_of k M _ _ _ _ more (IsOver-lesser M f x a c oa oc) (IsOver-lesser M g x b c ob oc) (by_lt_z c b
      (λ less. omega (arith, ints, mul_mono_right d (int_min a c) (int_min b c) (omega (arith, ints, clamps, less))))
      (λ more. omega (arith, ints, le, mul_mono_right d (int_min a c) a (omega (arith, ints, clamps)), mul_mono_right d b (int_min b c) (omega (arith, ints, clamps, more)))))

  pub near_greater : (k : ℕ) (f g x : Fraction) → IsNear d k f g → IsNear d k (greater f x) (greater g x)
  near_greater k f g x h =
      let (M, more, at) = common_denominator_exists 3 (among (f ∷ g ∷ x ∷ [])) in
      let (a, oa) = at 0 (omega arith) in
      let (b, ob) = at 1 (omega arith) in
      let (c, oc) = at 2 (omega arith) in
      let le = near_to k M f g a b oa ob h in
      near_of k M _ _ _ _ more (IsOver-greater M f x a c oa oc) (IsOver-greater M g x b c ob oc) (by_lt_z a c
      (λ less. omega (arith, ints, mul_mono_right d (int_max a c) (int_max b c) (omega (arith, ints, clamps, less))))
      (λ more. omega (arith, ints, le, mul_mono_right d (int_max a c) a (omega (arith, ints, clamps, more)), mul_mono_right d b (int_max b c) (omega (arith, ints, clamps)))))
