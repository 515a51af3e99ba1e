-- The pair of a given head contains it: the head is linear in the part of the period that has passed, so it lies between the heads at the ends of that part's bounds.
use Rattle.conductance_bounds.proofs.Common.{◌≡◌, ℕ, suc, ◌+◌, ◌*◌, ◌-◌, ◌≤◌, ◌^◌, arith, ap, ◌∙◌, sym, subst, ℤ, pos, negsuc, neg_ℤ, ◌+ℤ◌, ◌-ℤ◌, ◌*ℤ◌, ◌≤ℤ◌, int_min, int_max, ints, clamps, by_lt_z}
use Rattle.conductance_bounds.proofs.Common.{Dec, number, Ratio, den, EnclosesSigned, mul_mono_right, cancel_right, last_factors_swap, diffs, as_diff, same_diff, between_heads, IsPassed, blend}
use Rattle.conductance_bounds.proofs.Common.{given_pair, head_pair, add_times, IsSignedCeiling, IsSignedFloor, neg_times, HeadPair, ceiling_of, head_floor_of, Part}
use Rattle.model_types.specs.declared.entry.Given.{Given}
use Rattle.conductance_bounds.proofs.Units.{IsCeilingOf, IsFloorOf, ceiling_is, floor_is, head_ceiling, head_floor, pair_of}
use Rattle.decimal_input.specs.Fractions.{den as denominator}

nonneg : (a b : ℤ) → pos 0 ≤ℤ a → pos 0 ≤ℤ b → pos 0 ≤ℤ (a *ℤ b)
nonneg (pos n) (pos k) p q = omega (arith, ints)
nonneg (pos n) (negsuc k) p q = absurd (omega (arith, ints, q))
nonneg (negsuc n) b p q = absurd (omega (arith, ints, p))

mixed : (f r w u s e : ℤ) → (f +ℤ r) *ℤ (s *ℤ w +ℤ e *ℤ u) ≡ (s *ℤ r +ℤ e *ℤ f) *ℤ (w +ℤ u) +ℤ (e -ℤ s) *ℤ (u *ℤ r -ℤ f *ℤ w)
mixed f r w u s e = rw (as_diff f, as_diff r, as_diff w, as_diff u, as_diff s, as_diff e) (simp diffs (same_diff _ _ _ _ (omega arith)))

turned_signs : (a b : ℤ) → a *ℤ b ≡ neg_ℤ a *ℤ neg_ℤ b
turned_signs a b = rw (as_diff a, as_diff b) (simp diffs (same_diff _ _ _ _ (omega arith)))

-- at a part k below F the head is lower where it rises
rising : (s e : ℤ) (f r w u : ℕ) → s ≤ℤ e → f * w ≤ u * r → ((s *ℤ pos r +ℤ e *ℤ pos f) *ℤ (pos w +ℤ pos u)) ≤ℤ ((pos f +ℤ pos r) *ℤ (s *ℤ pos w +ℤ e *ℤ pos u))
rising s e f r w u up le = omega (arith, ints, mixed (pos f) (pos r) (pos w) (pos u) s e, nonneg (e -ℤ s) (pos u *ℤ pos r -ℤ pos f *ℤ pos w) (omega (arith, ints, up)) (omega (arith, ints, le)))

-- and at a part above F where it falls
falling : (s e : ℤ) (f r w u : ℕ) → e ≤ℤ s → u * r ≤ f * w → ((s *ℤ pos r +ℤ e *ℤ pos f) *ℤ (pos w +ℤ pos u)) ≤ℤ ((pos f +ℤ pos r) *ℤ (s *ℤ pos w +ℤ e *ℤ pos u))
falling s e f r w u down le = omega (
  arith,
  ints,
  mixed (pos f) (pos r) (pos w) (pos u) s e,
  turned_signs (e -ℤ s) (pos u *ℤ pos r -ℤ pos f *ℤ pos w),
  nonneg (neg_ℤ (e -ℤ s)) (neg_ℤ (pos u *ℤ pos r -ℤ pos f *ℤ pos w)) (omega (arith, ints, down)) (omega (arith, ints, le)),
)

commuted : (a b : ℤ) → a *ℤ b ≡ b *ℤ a
commuted a b = rw (as_diff a, as_diff b) (simp diffs (same_diff _ _ _ _ (omega arith)))

abbrev unit : ℕ
unit = 10 ^ 18

-- the lower bound of the blends is a lower bound at every part between f and g
step_low : (s e lo : ℤ) (f g w u : ℕ) → f ≤ unit → g ≤ unit → f * w ≤ u * (unit - f) → u * (unit - g) ≤ g * w →
    (lo *ℤ pos unit) ≤ℤ int_min (blend s e f) (blend s e g) → (lo *ℤ (pos w +ℤ pos u)) ≤ℤ (s *ℤ pos w +ℤ e *ℤ pos u)
step_low s e lo f g w u hf hg a b h =
    by_lt_z e s
    (λ lt. finish g hg (falling s e g (unit - g) w u (omega (arith, ints)) b) (omega (arith, ints, clamps, h)))
    (λ le. finish f hf (rising s e f (unit - f) w u le a) (omega (arith, ints, clamps, h)))
  where
    finish : (k : ℕ) → k ≤ unit → ((s *ℤ pos (unit - k) +ℤ e *ℤ pos k) *ℤ (pos w +ℤ pos u)) ≤ℤ ((pos k +ℤ pos (unit - k)) *ℤ (s *ℤ pos w +ℤ e *ℤ pos u)) →
        (lo *ℤ pos unit) ≤ℤ blend s e k → (lo *ℤ (pos w +ℤ pos u)) ≤ℤ (s *ℤ pos w +ℤ e *ℤ pos u)
    finish k hk below bound =
        let whole : pos k +ℤ pos (unit - k) ≡ pos unit = omega (arith, ints, hk) in
        let right : (pos k +ℤ pos (unit - k)) *ℤ (s *ℤ pos w +ℤ e *ℤ pos u) ≡ (s *ℤ pos w +ℤ e *ℤ pos u) *ℤ pos unit =
        ap (λ (z : ℤ). z *ℤ (s *ℤ pos w +ℤ e *ℤ pos u)) whole ∙ commuted (pos unit) (s *ℤ pos w +ℤ e *ℤ pos u) in
        cancel_right unit (lo *ℤ pos (w + u)) (s *ℤ pos w +ℤ e *ℤ pos u) (omega arith)
        (omega (arith, ints, last_factors_swap lo (pos (w + u)) (pos unit), mul_mono_right (w + u) (lo *ℤ pos unit) (blend s e k) bound, below, right))

one_part : (s x k : ℤ) (w : ℤ) → (s *ℤ w) *ℤ (x *ℤ k) ≡ (s *ℤ x) *ℤ (w *ℤ k)
one_part s x k w = rw (as_diff s, as_diff x, as_diff k, as_diff w) (simp diffs (same_diff _ _ _ _ (omega arith)))

-- a head over the denominators of its ends: a / x at the start, b / y at the end, u of w + u passed
top_is : (a b x y w u : ℤ) → a *ℤ ((y *ℤ x) *ℤ (w +ℤ u)) +ℤ ((b *ℤ x +ℤ neg_ℤ a *ℤ y) *ℤ u) *ℤ x ≡ a *ℤ (w *ℤ (y *ℤ x)) +ℤ b *ℤ (u *ℤ (x *ℤ x))
top_is a b x y w u = rw (as_diff a, as_diff b, as_diff x, as_diff y, as_diff w, as_diff u) (simp diffs (same_diff _ _ _ _ (omega arith)))

left_is : (l x y v : ℤ) → l *ℤ (x *ℤ ((y *ℤ x) *ℤ v)) ≡ (l *ℤ v) *ℤ (x *ℤ (y *ℤ x))
left_is l x y v = rw (as_diff l, as_diff x, as_diff y, as_diff v) (simp diffs (same_diff _ _ _ _ (omega arith)))

other_part : (e u x y : ℤ) → (e *ℤ u) *ℤ (x *ℤ (y *ℤ x)) ≡ (e *ℤ y) *ℤ (u *ℤ (x *ℤ x))
other_part e u x y = rw (as_diff e, as_diff u, as_diff x, as_diff y) (simp diffs (same_diff _ _ _ _ (omega arith)))

head_low : (a b l s e : ℤ) (x y w u T : ℕ) → (s *ℤ pos x) ≤ℤ (a *ℤ pos T) → (e *ℤ pos y) ≤ℤ (b *ℤ pos T) → (l *ℤ (pos w +ℤ pos u)) ≤ℤ (s *ℤ pos w +ℤ e *ℤ pos u) →
    (l *ℤ (pos x *ℤ ((pos y *ℤ pos x) *ℤ (pos w +ℤ pos u)))) ≤ℤ ((a *ℤ pos (w * (y * x)) +ℤ b *ℤ pos (u * (x * x))) *ℤ pos T)
head_low a b l s e x y w u T hs he h =
    let apart = add_times (a *ℤ pos (w * (y * x))) (b *ℤ pos (u * (x * x))) (pos T) in
    let one = last_factors_swap a (pos (w * (y * x))) (pos T) in
    let two = last_factors_swap b (pos (u * (x * x))) (pos T) in
    let first = mul_mono_right (w * (y * x)) (s *ℤ pos x) (a *ℤ pos T) hs in
    let second = mul_mono_right (u * (x * x)) (e *ℤ pos y) (b *ℤ pos T) he in
    let whole = mul_mono_right (x * (y * x)) (l *ℤ (pos w +ℤ pos u)) (s *ℤ pos w +ℤ e *ℤ pos u) h in
    let parts = add_times (s *ℤ pos w) (e *ℤ pos u) (pos (x * (y * x))) in
    let p = one_part s (pos x) (pos (y * x)) (pos w) in
    let q = other_part e (pos u) (pos x) (pos y) in
    let r = left_is l (pos x) (pos y) (pos w +ℤ pos u) in
    omega (arith, ints, r, whole, parts, p, q, first, second, one, two, apart)

middle_den : (a b c : ℕ) → suc ((b * a + b + a) * c + (b * a + b + a) + c) ≡ (suc b * suc a) * suc c
middle_den a b c = omega arith

whole_den : (a k : ℕ) → suc (a * k + a + k) ≡ suc a * suc k
whole_den a k = omega arith

-- what has not passed yet of the part below a bound
below : (f u w r : ℕ) → f * (w + u) ≤ u * (f + r) → f * w ≤ u * r
below f u w r h = omega (arith, h)

above : (g u w r : ℕ) → u * (g + r) ≤ g * (w + u) → u * r ≤ g * w
above g u w r h = omega (arith, h)

passed_below : (f u w v r : ℕ) → v ≡ w + u → unit ≡ f + r → f * v ≤ u * unit → f * w ≤ u * r
passed_below f u w v r e k h = below f u w r (subst (λ (x : ℕ). f * x ≤ u * (f + r)) e (subst (λ (x : ℕ). f * v ≤ u * x) k h))

passed_above : (g u w v r : ℕ) → v ≡ w + u → unit ≡ g + r → u * unit ≤ g * v → u * r ≤ g * w
passed_above g u w v r e k h = above g u w r (subst (λ (x : ℕ). u * (g + r) ≤ g * x) e (subst (λ (x : ℕ). u * x ≤ g * v) k h))

-- The upper side is the lower one with the other signs.
step_high : (s e hi : ℤ) (f g w u : ℕ) → f ≤ unit → g ≤ unit → f * w ≤ u * (unit - f) → u * (unit - g) ≤ g * w →
    int_max (blend s e f) (blend s e g) ≤ℤ (hi *ℤ pos unit) → (s *ℤ pos w +ℤ e *ℤ pos u) ≤ℤ (hi *ℤ (pos w +ℤ pos u))
step_high s e hi f g w u hf hg a b h =
    let blends : (neg_ℤ hi *ℤ pos unit) ≤ℤ int_min (blend (neg_ℤ s) (neg_ℤ e) f) (blend (neg_ℤ s) (neg_ℤ e) g) =
    omega (
      arith,
      ints,
      clamps,
      h,
      neg_times hi (pos unit),
      neg_times s (pos (unit - f)),
      neg_times e (pos f),
      neg_times s (pos (unit - g)),
      neg_times e (pos g),
    ) in
    omega (arith, ints, step_low (neg_ℤ s) (neg_ℤ e) (neg_ℤ hi) f g w u hf hg a b blends, neg_times hi (pos w +ℤ pos u), neg_times s (pos w), neg_times e (pos u))

turned_sum : (a b k m t : ℤ) → (neg_ℤ a *ℤ k +ℤ neg_ℤ b *ℤ m) *ℤ t ≡ neg_ℤ ((a *ℤ k +ℤ b *ℤ m) *ℤ t)
turned_sum a b k m t = rw (as_diff a, as_diff b, as_diff k, as_diff m, as_diff t) (simp diffs (same_diff _ _ _ _ (omega arith)))

head_high : (a b l s e : ℤ) (x y w u T : ℕ) → (a *ℤ pos T) ≤ℤ (s *ℤ pos x) → (b *ℤ pos T) ≤ℤ (e *ℤ pos y) → (s *ℤ pos w +ℤ e *ℤ pos u) ≤ℤ (l *ℤ (pos w +ℤ pos u)) →
    ((a *ℤ pos (w * (y * x)) +ℤ b *ℤ pos (u * (x * x))) *ℤ pos T) ≤ℤ (l *ℤ (pos x *ℤ ((pos y *ℤ pos x) *ℤ (pos w +ℤ pos u))))
head_high a b l s e x y w u T hs he h =
    let low = head_low (neg_ℤ a) (neg_ℤ b) (neg_ℤ l) (neg_ℤ s) (neg_ℤ e) x y w u T (omega (arith, ints, hs, neg_times s (pos x), neg_times a (pos T)))
    (omega (arith, ints, he, neg_times e (pos y), neg_times b (pos T))) (omega (
      arith,
      ints,
      h,
      neg_times l (pos w +ℤ pos u),
      neg_times s (pos w),
      neg_times e (pos u),
    )) in
    omega (arith, ints, low, neg_times l (pos x *ℤ ((pos y *ℤ pos x) *ℤ (pos w +ℤ pos u))), turned_sum a b (pos (w * (y * x))) (pos (u * (x * x))) (pos T))

-- the pair of a given head contains it, wherever the part lies between its bounds
given_within : (x : Given) (F : Ratio) (f g : ℕ) (s e : HeadPair) (lo hi : ℤ) → IsPassed F f g → IsSignedFloor s.lo (number x.shead) 9 →
    IsSignedCeiling s.hi (number x.shead) 9 → IsSignedFloor e.lo (number x.ehead) 9 → IsSignedCeiling e.hi (number x.ehead) 9 →
    IsFloorOf (int_min (blend s.lo e.lo f) (blend s.lo e.lo g)) lo → IsCeilingOf (int_max (blend s.hi e.hi f) (blend s.hi e.hi g)) hi → EnclosesSigned lo hi 9 (between_heads x F)
given_within x F f g s e lo hi passed start_floor start_ceiling end_floor end_ceiling floor ceiling =
    let S = number x.shead in
    let E = number x.ehead in
    let w = den F - F.num in
    let v : den F ≡ w + F.num = omega (arith, passed.part) in
    let from = passed_below f F.num w (den F) (unit - f) v (omega (arith, passed.low_range)) passed.below in
    let to = passed_above g F.num w (den F) (unit - g) v (omega (arith, passed.high_range)) passed.above in
    let low = head_low S.num E.num lo s.lo e.lo (denominator S) (denominator E) w F.num (10 ^ 9) start_floor.at_most end_floor.at_most
    (step_low s.lo e.lo lo f g w F.num passed.low_range passed.high_range from to floor.at_most) in
    let high = head_high S.num E.num hi s.hi e.hi (denominator S) (denominator E) w F.num (10 ^ 9) start_ceiling.at_least end_ceiling.at_least
    (step_high s.hi e.hi hi f g w F.num passed.low_range passed.high_range from to ceiling.at_least) in
    let e₁ : suc ((E.less * S.less + E.less + S.less) * F.less + (E.less * S.less + E.less + S.less) + F.less) ≡ (denominator E * denominator S) * (w + F.num) =
    middle_den S.less E.less F.less ∙ ap (λ (z : ℕ). (denominator E * denominator S) * z) v in
    let e₂ : denominator (between_heads x F) ≡ denominator S * ((denominator E * denominator S) * (w + F.num)) = whole_den S.less _ ∙ ap (λ (z : ℕ). denominator S * z) e₁ in
    let num = ap (λ (z : ℕ). (S.num *ℤ pos z +ℤ ((E.num *ℤ pos (denominator S) +ℤ neg_ℤ S.num *ℤ pos (denominator E)) *ℤ pos F.num) *ℤ pos (denominator S)) *ℤ pos (10 ^ 9)) e₁ in
    let top = ap (λ (z : ℤ). z *ℤ pos (10 ^ 9)) (top_is S.num E.num (pos (denominator S)) (pos (denominator E)) (pos w) (pos F.num)) in
    record {
      lower = omega (arith, ints, low, ap (λ (z : ℕ). lo *ℤ pos z) e₂, num, top);
      upper = omega (arith, ints, high, ap (λ (z : ℕ). hi *ℤ pos z) e₂, num, top);
    }

pub given_encloses : (x : Given) (F : Ratio) (part : Part) → IsPassed F part.lo part.hi → EnclosesSigned (given_pair x.shead x.ehead part).lo (given_pair x.shead x.ehead part).hi 9 (between_heads x F)
unfolding given_pair
given_encloses x F part h =
    given_within x F part.lo part.hi (head_pair x.shead) (head_pair x.ehead) _ _ h (head_floor x.shead) (head_ceiling x.shead) (head_floor x.ehead) (head_ceiling x.ehead) (floor_is _) (ceiling_is _)

-- the same for a pair that is made of the ends, and numbers that are those of an entry
pub head_encloses : (shead ehead : Dec) (part : Part) (r : HeadPair) → r ≡ given_pair shead ehead part → (x : Given) (F : Ratio) → x.shead ≡ shead → x.ehead ≡
    ehead → IsPassed F part.lo part.hi → EnclosesSigned r.lo r.hi 9 (between_heads x F)
head_encloses shead ehead part r is x F p q h =
    let e : given_pair x.shead x.ehead part ≡ r = (λ i. given_pair (p i) (q i) part) ∙ sym is in
    subst (λ (k : HeadPair). EnclosesSigned k.lo k.hi 9 (between_heads x F)) e (given_encloses x F part h)

pub given_is : (shead ehead : Dec) (part : Part) (start end : HeadPair) (lo hi : ℤ) → start ≡ head_pair shead → end ≡ head_pair ehead →
    lo ≡ head_floor_of (int_min (blend start.lo end.lo part.lo) (blend start.lo end.lo part.hi)) → hi ≡
    ceiling_of (int_max (blend start.hi end.hi part.lo) (blend start.hi end.hi part.hi)) → pair_of lo hi ≡ given_pair shead ehead part
unfolding given_pair
given_is shead ehead part start end lo hi p q a b =
    let low = a ∙ (λ i. head_floor_of (int_min (blend (p i).lo (q i).lo part.lo) (blend (p i).lo (q i).lo part.hi))) in
    let high = b ∙ (λ i. ceiling_of (int_max (blend (p i).hi (q i).hi part.lo) (blend (p i).hi (q i).hi part.hi))) in
    λ i. record { lo = low i; hi = high i }
