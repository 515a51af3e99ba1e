-- What acts of a conductance between two heads within bounds lies between what acts at their lower ends with the highest foot and
-- at their upper ends with the lowest foot.
use Rattle.plan_step.proofs.Common.{◌≡◌, ◌≤◌, ◌<◌, ◌+◌, ◌*◌, ◌∙◌, ℕ, Bool, true, false, ap, arith, refl, subst, sym, ℤ, pos, ◌+ℤ◌, ◌-ℤ◌, ◌*ℤ◌, ◌≤ℤ◌, ◌<ℤ◌, cond, not, int_max, int_min}
use Rattle.plan_step.proofs.Common.{le_of_mul-le-mul_right, mul-le-mul_left, mul-le-mul_right, by_lt_z, clamps, ints, mul_mono_right, add_mul, sub_mul, Side, High, Low, acting, divided}
use Rattle.plan_step.proofs.Common.{acting_between, not_negative}
use Rattle.std.specs.Prelude.{int_lt, unsigned_abs}
use Rattle.plan_step.proofs.{Rounding.divided_within, Rounding.down_times, Rounding.high_share, Rounding.low_share, Rounding.up_times, Stretches.IsStretch}

-- the three cases of what acts
pub data IsActing (side : Side) (c : ℕ) (foot low high : ℤ) (v : ℕ) : Type 0 where
  whole : foot ≤ℤ low → v ≡ c → IsActing side c foot low high v
  none : low <ℤ foot → high ≤ℤ foot → v ≡ 0 → IsActing side c foot low high v
  share : low <ℤ foot → foot <ℤ high → v ≡ divided side (c * unsigned_abs (high -ℤ foot)) (unsigned_abs (high -ℤ low)) → IsActing side c foot low high v

pub acting_is : (side : Side) (c : ℕ) (foot low high : ℤ) → IsActing side c foot low high (acting_between side c foot low high)
unfolding acting_between
acting_is side c foot low high = by (int_lt low foot) (int_lt foot high) refl refl
  where
    is_less : (a b : ℤ) → int_lt a b ≡ true → a <ℤ b
    is_less a b e = grind (arith, ints)

    not_less : (a b : ℤ) → int_lt a b ≡ false → b ≤ℤ a
    not_less a b e = grind (arith, ints)

    by : (a b : Bool) → int_lt low foot ≡ a → int_lt foot high ≡ b →
        IsActing side c foot low high (cond (not a) c (cond (not b) 0 (divided side (c * unsigned_abs (high -ℤ foot)) (unsigned_abs (high -ℤ low)))))
    by false b e d = whole (not_less low foot e) refl
    by true false e d = none (is_less low foot e) (not_less foot high d) refl
    by true true e d = share (is_less low foot e) (is_less foot high d) refl

pub at_most_whole : (side : Side) (c : ℕ) (foot low high : ℤ) → acting_between side c foot low high ≤ c
at_most_whole side c foot low high = elim (acting_is side c foot low high) [
  | whole a e ↦ omega (arith, e)
  | none a b e ↦ omega (arith, e)
  | share a b e ↦ omega (arith, e, divided_within side c (unsigned_abs (high -ℤ foot)) (unsigned_abs (high -ℤ low)) (omega (arith, ints, a, b)) (omega (arith, ints, a, b)))
]

-- the rounded quotient of two differences that are known
by_parts : (side : Side) (c : ℕ) (a b : ℤ) (p m : ℕ) → a ≡ pos p → b ≡ pos m → divided side (c * unsigned_abs a) (unsigned_abs b) ≡ divided side (c * p) m
by_parts side c a b p m e d = ap (λ (z : ℤ). divided side (c * unsigned_abs z) (unsigned_abs b)) e ∙ ap (λ (z : ℤ). divided side (c * p) (unsigned_abs z)) d

finish_low : (v c k r m p : ℕ) → 0 < m → v * m ≤ c * p → p * k ≤ r * m → v * k ≤ c * r
finish_low v c k r m p some down plain = le_of_mul-le-mul_right (omega (arith, mul-le-mul_right k down, mul-le-mul_left c plain)) some

finish_high : (v c k r m p : ℕ) → 0 < m → c * p ≤ v * m → r * m ≤ p * k → c * r ≤ v * k
finish_high v c k r m p some up plain = le_of_mul-le-mul_right (omega (arith, mul-le-mul_right k up, mul-le-mul_left c plain)) some

-- whole heads over n: the lesser and the greater of two keep what bounds each
module _ (n : ℕ) (some : 0 < n) where
  lesser : (a b : ℤ) → a <ℤ b → int_min a b *ℤ pos n ≡ a *ℤ pos n
  lesser a b h = ap (λ (z : ℤ). z *ℤ pos n) (omega (arith, ints, clamps))

  lesser_back : (a b : ℤ) → b ≤ℤ a → int_min a b *ℤ pos n ≡ b *ℤ pos n
  lesser_back a b h = ap (λ (z : ℤ). z *ℤ pos n) (omega (arith, ints, clamps))

  greater_is : (a b : ℤ) → a <ℤ b → int_max a b *ℤ pos n ≡ b *ℤ pos n
  greater_is a b h = ap (λ (z : ℤ). z *ℤ pos n) (omega (arith, ints, clamps))

  greater_back : (a b : ℤ) → b ≤ℤ a → int_max a b *ℤ pos n ≡ a *ℤ pos n
  greater_back a b h = ap (λ (z : ℤ). z *ℤ pos n) (omega (arith, ints, clamps))

  strictly : (a b : ℤ) → a <ℤ b → (a *ℤ pos n) <ℤ (b *ℤ pos n)
  strictly a b h = let more : ((a +ℤ pos 1) *ℤ pos n) ≤ℤ (b *ℤ pos n) = mul_mono_right n (a +ℤ pos 1) b (omega (arith, ints)) in omega (arith, ints, more, add_mul a (pos 1) (pos n))

  -- the lower corner: L and H are the lesser and the greater of the heads' lower ends, B is the highest foot
  low_sorted : (c : ℕ) (x y : ℤ) (k : ℕ) (f : ℤ) (r : ℕ) (L H B : ℤ) → L ≤ℤ H → IsStretch x y k f r → (L *ℤ pos n) ≤ℤ int_min x y → (H *ℤ pos n) ≤ℤ int_max x y → f ≤ℤ (B *ℤ pos n) →
      acting_between Low c B L H * k ≤ c * r
  low_sorted c x y k f r L H B order is low high foot =
      by_lt_z (int_min x y) f
      (λ under. by_lt_z f (int_max x y) (λ over. elim (acting_is Low c B L H) [
        | whole a e ↦ absurd (omega (arith, ints, under, low, foot, mul_mono_right n B L a))
        | none a b e ↦ rw e (omega arith)
        | share a b e ↦ crossing under over a b e
      ])
      (λ flat. elim (acting_is Low c B L H) [
        | whole a e ↦ absurd (omega (arith, ints, under, low, foot, mul_mono_right n B L a))
        | none a b e ↦ rw e (omega arith)
        | share a b e ↦ absurd (omega (arith, ints, flat, high, foot, strictly B H b))
      ]))
      (λ up. rw (is.above up) (mul-le-mul_right k (at_most_whole Low c B L H)))
    where
      crossing : int_min x y <ℤ f → f <ℤ int_max x y → L <ℤ B → B <ℤ H → acting_between Low c B L H ≡
          divided Low (c * unsigned_abs (H -ℤ B)) (unsigned_abs (H -ℤ L)) → acting_between Low c B L H * k ≤ c * r
      crossing under over a b e =
          let (m, me) = not_negative (H -ℤ L) (omega (arith, ints)) in
          let (p, pe) = not_negative (H -ℤ B) (omega (arith, ints)) in
          let (t, te) = not_negative (int_max x y -ℤ H *ℤ pos n) (omega (arith, ints)) in
          let ways = is.across under over in
          let wide : (H -ℤ L) *ℤ pos n ≡ pos (m * n) = ap (λ (z : ℤ). z *ℤ pos n) me in
          let tall : (H -ℤ B) *ℤ pos n ≡ pos (p * n) = ap (λ (z : ℤ). z *ℤ pos n) pe in
          let shared : p * n * k ≤ r * (m * n) =
          low_share (m * n) (p * n) t k r (omega (arith, ints, ways.0, low, te, wide, sub_mul H L (pos n))) (omega (arith, ints, ways.1, foot, te, tall, sub_mul H B (pos n)))
          (mul-le-mul_right n (omega (arith, ints, me, pe))) in
          let plain : p * k ≤ r * m = le_of_mul-le-mul_right (omega (arith, shared)) some in
          let some_m : 0 < m = omega (arith, ints, me) in
          finish_low (acting_between Low c B L H) c k r m p some_m (subst (λ (v : ℕ). v * m ≤ c * p) (sym (e ∙ by_parts Low c (H -ℤ B) (H -ℤ L) p m pe me)) (down_times (c * p) m some_m)) plain

  -- the upper corner, mirrored: B is the lowest foot
  high_sorted : (c : ℕ) (x y : ℤ) (k : ℕ) (f : ℤ) (r : ℕ) (L H B : ℤ) → L ≤ℤ H → IsStretch x y k f r → int_min x y ≤ℤ (L *ℤ pos n) → int_max x y ≤ℤ (H *ℤ pos n) → (B *ℤ pos n) ≤ℤ f →
      c * r ≤ (acting_between High c B L H * k)
  high_sorted c x y k f r L H B order is low high foot =
      by_lt_z (int_min x y) f
      (λ under. by_lt_z f (int_max x y) (λ over. elim (acting_is High c B L H) [
        | whole a e ↦ rw e (mul-le-mul_left c is.at_most)
        | none a b e ↦ absurd (omega (arith, ints, over, high, foot, mul_mono_right n H B b))
        | share a b e ↦ crossing under over a b e
      ])
      (λ flat. rw (is.below under flat) (omega arith)))
      (λ up. elim (acting_is High c B L H) [
        | whole a e ↦ rw e (mul-le-mul_left c is.at_most)
        | none a b e ↦ absurd (omega (arith, ints, up, low, foot, strictly L B a))
        | share a b e ↦ absurd (omega (arith, ints, up, low, foot, strictly L B a))
      ])
    where
      crossing : int_min x y <ℤ f → f <ℤ int_max x y → L <ℤ B → B <ℤ H → acting_between High c B L H ≡
          divided High (c * unsigned_abs (H -ℤ B)) (unsigned_abs (H -ℤ L)) → c * r ≤ (acting_between High c B L H * k)
      crossing under over a b e =
          let (m, me) = not_negative (H -ℤ L) (omega (arith, ints)) in
          let (p, pe) = not_negative (H -ℤ B) (omega (arith, ints)) in
          let (t, te) = not_negative (H *ℤ pos n -ℤ int_max x y) (omega (arith, ints)) in
          let ways = is.across under over in
          let wide : (H -ℤ L) *ℤ pos n ≡ pos (m * n) = ap (λ (z : ℤ). z *ℤ pos n) me in
          let tall : (H -ℤ B) *ℤ pos n ≡ pos (p * n) = ap (λ (z : ℤ). z *ℤ pos n) pe in
          let shared : r * (m * n) ≤ p * n * k =
          high_share (m * n) (p * n) t k r (omega (arith, ints, ways.1, foot, te, tall, sub_mul H B (pos n))) (omega (arith, ints, ways.0, low, te, wide, sub_mul H L (pos n)))
          (mul-le-mul_right n (omega (arith, ints, me, pe))) in
          let plain : r * m ≤ p * k = le_of_mul-le-mul_right (omega (arith, shared)) some in
          let some_m : 0 < m = omega (arith, ints, me) in
          finish_high (acting_between High c B L H) c k r m p some_m (subst (λ (v : ℕ). c * p ≤ v * m) (sym (e ∙ by_parts High c (H -ℤ B) (H -ℤ L) p m pe me)) (up_times (c * p) m some_m)) plain

  -- two heads in any order
  pub low_corner : (c : ℕ) (x y : ℤ) (k : ℕ) (f : ℤ) (r : ℕ) (l l' B : ℤ) → IsStretch x y k f r → (l *ℤ pos n) ≤ℤ x → (l' *ℤ pos n) ≤ℤ y → f ≤ℤ (B *ℤ pos n) → acting Low c B l l' * k ≤ c * r
  low_corner c x y k f r l l' B is first second foot =
      low_sorted c x y k f r (int_min l l') (int_max l l') B (omega (arith, ints, clamps)) is
      (by_lt_z l l' (λ lt. omega (arith, ints, clamps, lt, first, second, mul_mono_right n l l' (omega (arith, ints)), lesser l l' lt)) (λ le.
      omega (arith, ints, clamps, first, second, mul_mono_right n l' l le, lesser_back l l' le)))
      (by_lt_z l l' (λ lt. omega (arith, ints, clamps, first, second, greater_is l l' lt)) (λ le. omega (arith, ints, clamps, first, second, greater_back l l' le)))
      foot

  pub high_corner : (c : ℕ) (x y : ℤ) (k : ℕ) (f : ℤ) (r : ℕ) (u u' B : ℤ) → IsStretch x y k f r → x ≤ℤ (u *ℤ pos n) → y ≤ℤ (u' *ℤ pos n) → (B *ℤ pos n) ≤ℤ f → c * r ≤ (acting High c B u u' * k)
  high_corner c x y k f r u u' B is first second foot =
      high_sorted c x y k f r (int_min u u') (int_max u u') B (omega (arith, ints, clamps)) is
      (by_lt_z u u' (λ lt. omega (arith, ints, clamps, first, second, lesser u u' lt)) (λ le. omega (arith, ints, clamps, first, second, lesser_back u u' le)))
      (by_lt_z u u' (λ lt. omega (arith, ints, clamps, first, second, mul_mono_right n u u' (omega (arith, ints)), greater_is u u' lt)) (λ le.
      omega (arith, ints, clamps, first, second, mul_mono_right n u' u le, greater_back u u' le)))
      foot
