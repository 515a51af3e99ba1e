-- A given head whose two ends lie between those of two others, in one order, lies between theirs at each part of the period; and at a step of a
-- period the part that has passed is at most 1.
use Rattle.deck_span.proofs.Common.{◌≡◌, ℕ, zero, suc, ◌+◌, ◌*◌, ◌-◌, ◌≤◌, arith, subst, Bool, true, false, cond, ℤ, pos, neg_ℤ, ◌+ℤ◌, ◌*ℤ◌, mul-pos, ints, ◌==◌, ◌||◌, number, Ratio, AtMost}
use Rattle.deck_span.proofs.Common.{mul_mono_right, le_over, over_le, own_share, AtMost-refl, num_plus, den_plus, Period, Given, one, power, geometric, multiplier, part_passed, between_heads}
use Rattle.deck_span.proofs.Common.{IsFractionBetween, IsGivenAtMost, LiesBetween, AtMost-trans, le-add, OrderedHeadsLieBetween}
use Rattle.decimal_input.specs.{over as size_over, ratio as size_ratio, Ratios.den as size_den, Ratios.AtMost as IsRatioAtMost, Ratios.plus as size_plus}
use Rattle.decimal_input.proofs.Differences.{diffs, as_diff, same_diff}
use Rattle.flow_equations.proofs.GivenAtSteps.{between_over}
use Rattle.deck_span.proofs.HullBounds.{between_image, den_of, over_all}

split : (a b : ℤ) (k n : ℕ) → n ≤ k → a *ℤ pos k +ℤ (b +ℤ neg_ℤ a) *ℤ pos n ≡ a *ℤ pos (k - n) +ℤ b *ℤ pos n
split a b k n le = let whole : pos k ≡ pos (k - n) +ℤ pos n = omega (arith, ints, le) in rw whole (parts a b (pos (k - n)) (pos n))
  where
    parts : (a b w u : ℤ) → a *ℤ (w +ℤ u) +ℤ (b +ℤ neg_ℤ a) *ℤ u ≡ a *ℤ w +ℤ b *ℤ u
    parts a b w u = rw (as_diff a, as_diff b, as_diff w, as_diff u) (simp diffs (same_diff _ _ _ _ (omega arith)))

module _ (F : Ratio) (part : F.num ≤ size_den F) where
  -- both ends at most the others', so the head is
  keeps : (x z : Given) → IsGivenAtMost x z → AtMost (between_heads x F) (between_heads z F)
  keeps x z h =
      let s = number x.shead in
      let e = number x.ehead in
      let u = number z.shead in
      let v = number z.ehead in
      let o = over_all s e u v in
      let d = den_of s e u v in
      let k = size_den F in
      le_over (d * k) (between_heads x F) (between_heads z F) (o.a *ℤ pos k +ℤ (o.b +ℤ neg_ℤ o.a) *ℤ pos F.num) (o.p *ℤ pos k +ℤ (o.q +ℤ neg_ℤ o.p) *ℤ pos F.num) (mul-pos o.some (omega arith))
      (between_over x F d k F.num o.a o.b (own_share F) o.f_over o.g_over) (between_over z F d k F.num o.p o.q (own_share F) o.h_over o.k_over)
      (rw (split o.a o.b k F.num part, split o.p o.q k F.num part)
      (le-add _ _ _ _ (mul_mono_right (k - F.num) o.a o.p (over_le d s u o.a o.p o.f_over o.h_over h.start))
      (mul_mono_right F.num o.b o.q (over_le d e v o.b o.q o.g_over o.k_over h.end))))

  heads_between : (x y z : Given) → LiesBetween IsGivenAtMost x y z → IsFractionBetween (between_heads x F) (between_heads y F) (between_heads z F)
  heads_between x y z h = between_image IsGivenAtMost AtMost (λ a. between_heads a F) keeps x y z h

pub ordered_between : OrderedHeadsLieBetween
ordered_between x y z cell alike h = record {
  cell = cell;
  alike = alike;
  heads = λ F part. heads_between F part x y z h;
  end = between_image IsGivenAtMost AtMost (λ a. number a.ehead) (λ a b k. k.end) x y z h;
}

-- the part of a period that has passed is at most 1

more : (g h : Ratio) → IsRatioAtMost g (size_plus g h)
more g h = record { cross = rw (num_plus g h, den_plus g h) (omega arith) }

grows : (t : Ratio) (n k : ℕ) → IsRatioAtMost (geometric t n) (geometric t (k + n))
unfolding geometric
grows t n zero = subst (λ (j : ℕ). IsRatioAtMost (geometric t n) (geometric t j)) (let e : n ≡ zero + n = omega arith in e) (AtMost-refl (geometric t n))
grows t n (suc k) = subst (λ (j : ℕ). IsRatioAtMost (geometric t n) (geometric t j)) (let e : suc (k + n) ≡ suc k + n = omega arith in e)
    (AtMost-trans (grows t n k) (more (geometric t (k + n)) (power t (k + n))))

grown : (t : Ratio) (n m : ℕ) → n ≤ m → IsRatioAtMost (geometric t n) (geometric t m)
grown t n m h = subst (λ (j : ℕ). IsRatioAtMost (geometric t n) (geometric t j)) (let e : (m - n) + n ≡ m = omega (arith, h) in e) (grows t n (m - n))

share : (g h : Ratio) → IsRatioAtMost g h → (size_over g h).num ≤ size_den (size_over g h)
unfolding size_over size_ratio
share g h k = omega (arith, k.cross)

one_whole : one.num ≤ size_den one
unfolding size_ratio
one_whole = omega arith

pub part_of : (p : Period) (n : ℕ) → n ≤ p.nstp → (part_passed p n).num ≤ size_den (part_passed p n)
unfolding part_passed
part_of p n h = by (n == p.nstp || p.perlen.digits == 0)
  where
    by : (b : Bool) → (cond b one (size_over (geometric (multiplier p) n) (geometric (multiplier p) p.nstp))).num ≤ size_den
        (cond b one (size_over (geometric (multiplier p) n) (geometric (multiplier p) p.nstp)))
    by true = one_whole
    by false = share (geometric (multiplier p) n) (geometric (multiplier p) p.nstp) (grown (multiplier p) n p.nstp h)
