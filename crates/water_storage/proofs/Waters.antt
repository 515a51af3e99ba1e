-- The flow of stored water over a step, as falls over the conductances that stand for storage.
use Rattle.water_storage.proofs.Common.{ap, suc, by_lt_z, ◌≡◌, ℕ, ◌*◌, ◌-◌, ◌^◌, ◌<◌, ◌∙◌, arith, refl, subst, sym, ℤ, pos, ◌+ℤ◌, ◌-ℤ◌, ◌*ℤ◌, [], ◌∷◌, mul-pos, clamps, ints, int_max, int_min}
use Rattle.water_storage.proofs.Common.{EnclosesSigned, Fraction, IsOver, Ratio, size, over, AtMost, Same, den, plus, times, as_fraction, greater, lesser, minus, whole, Goes-first, Goes-second}
use Rattle.water_storage.proofs.Common.{fraction_over, between_over, enclosed_over, over_le, same_over, IsOver-greater, IsOver-lesser, IsOver-minus, IsOver-none, IsOver-plus, IsOver-times, Lasts}
use Rattle.water_storage.proofs.Common.{FlowModel, Period, dec_at, one, storage_capacity, ConvertibleLayers, stored, with_yield, delc_at, delr_at, le-antisym, le-of}
use Rattle.decimal_input.specs.Ratios.{den as ratio_den, times as product, Same as SameRatio}
use Rattle.decimal_input.proofs.Differences.{as_diff, diffs, same_diff}
use Rattle.flow_equations.proofs.Downwards.{cross_by, own_value, same_by, size_positive, value_one, value_over, value_plus, value_times}
use Rattle.flow_equations.proofs.GivenAtSteps.{over_multiple}
use Rattle.model_types.proofs.Growth.{power-positive}
use Rattle.water_table.proofs.Orders.{among, common_denominator_exists}
unfoldable use Rattle.model_types.specs.{area, geometric, power, step_length, storage}

-- What a fraction is times another one, and that one is itself, in whole numbers.
-- y over K is a over K times b over K
conducts : (K : ℕ) (Y l q : Ratio) (y a b : ℤ) → 0 < K → Y.num * (ratio_den l * ratio_den q) ≡ (l.num * q.num) * ratio_den Y → IsOver K (as_fraction Y) y →
    IsOver K (as_fraction l) a → IsOver K (as_fraction q) b → y *ℤ pos K ≡ a *ℤ b
conducts K Y l q y a b some e is_y is_a is_b =
    let o = IsOver-times K K (as_fraction l) (as_fraction q) a b is_a is_b in
    let k = over_multiple K K (as_fraction Y) y is_y in
    let there : AtMost (as_fraction Y) (times (as_fraction l) (as_fraction q)) = record { at_most = omega (arith, ints, e) } in
    let back : AtMost (times (as_fraction l) (as_fraction q)) (as_fraction Y) = record { at_most = omega (arith, ints, e) } in
    le-antisym _ _ (over_le (K * K) _ _ _ _ k o there) (over_le (K * K) _ _ _ _ o k back)

ring_of : (a b e P Q R W : ℤ) → a *ℤ ((b *ℤ P +ℤ e *ℤ R) -ℤ (b *ℤ Q +ℤ e *ℤ W)) ≡ (a *ℤ b) *ℤ (P -ℤ Q) +ℤ (a *ℤ e) *ℤ (R -ℤ W)
ring_of a b e P Q R W =
    rw (as_diff a, as_diff b, as_diff e, as_diff P, as_diff Q, as_diff R, as_diff W) (simp diffs (same_diff _ _ _ _ (omega arith)))

scaled_ring : (y x k P Q R W : ℤ) → (y *ℤ (P -ℤ Q) +ℤ x *ℤ (R -ℤ W)) *ℤ k ≡ (y *ℤ k) *ℤ (P -ℤ Q) +ℤ (x *ℤ k) *ℤ (R -ℤ W)
scaled_ring y x k P Q R W =
    rw (as_diff y, as_diff x, as_diff k, as_diff P, as_diff Q, as_diff R, as_diff W) (simp diffs (same_diff _ _ _ _ (omega arith)))

max_above : (u t : ℤ) → int_max u t ≡ int_max (u -ℤ t) (pos 0) +ℤ t
max_above u t = by_lt_z u t (λ h. omega (arith, ints, clamps)) (λ h. omega (arith, ints, clamps))

-- Over a step, q per unit of head below the top and r above it, times l: falls over the conductances Y and S.
pub falls_over_step : (Y S l q r : Ratio) (top old v : Fraction) → Y.num * (ratio_den l * ratio_den q) ≡ (l.num * q.num) * ratio_den Y →
    S.num * (ratio_den l * ratio_den r) ≡ (l.num * r.num) * ratio_den S →
    Same (times (as_fraction l) (minus (stored q r top old) (stored q r top v)))
    (plus (times (as_fraction Y) (minus (lesser old top) (lesser v top))) (times (as_fraction S) (minus (greater old top) (greater v top))))
falls_over_step Y S l q r top old v by_y by_s =
    let (K, some, at) = common_denominator_exists 5 (among (as_fraction l ∷ as_fraction q ∷ as_fraction r ∷ as_fraction Y ∷ as_fraction S ∷ [])) in
    let (M, more, heads) = common_denominator_exists 3 (among (top ∷ old ∷ v ∷ [])) in
    let (a, is_a) = at 0 (omega arith) in
    let (b, is_b) = at 1 (omega arith) in
    let (e, is_e) = at 2 (omega arith) in
    let (y, is_y) = at 3 (omega arith) in
    let (x, is_x) = at 4 (omega arith) in
    let (t, is_t) = heads 0 (omega arith) in
    let (o, is_o) = heads 1 (omega arith) in
    let (z, is_z) = heads 2 (omega arith) in
    let water = λ (f : Fraction) (u : ℤ) (p : IsOver M f u).
    IsOver-plus (K * M) _ _ _ _ (IsOver-times K M _ _ _ _ is_b (IsOver-lesser M f top u t p is_t))
    (IsOver-times K M _ _ _ _ is_e (IsOver-greater M (minus f top) (whole (pos 0)) (u -ℤ t) (pos 0) (IsOver-minus M f top u t p is_t) (IsOver-none M))) in
    let loss = IsOver-minus (K * M) _ _ _ _ (water old o is_o) (water v z is_z) in
    let left = IsOver-times K (K * M) _ _ _ _ is_a loss in
    let drained = IsOver-times K M _ _ _ _ is_y (IsOver-minus M _ _ _ _ (IsOver-lesser M old top o t is_o is_t) (IsOver-lesser M v top z t is_z is_t)) in
    let pressed = IsOver-times K M _ _ _ _ is_x (IsOver-minus M _ _ _ _ (IsOver-greater M old top o t is_o is_t) (IsOver-greater M v top z t is_z is_t)) in
    let right = over_multiple (K * M) K _ _ (IsOver-plus (K * M) _ _ _ _ drained pressed) in
    let turned : (K * M) * K ≡ K * (K * M) = omega arith in
    let fall = plus (times (as_fraction Y) (minus (lesser old top) (lesser v top))) (times (as_fraction S) (minus (greater old top) (greater v top))) in
    let sum = (y *ℤ (int_min o t -ℤ int_min z t) +ℤ x *ℤ (int_max o t -ℤ int_max z t)) *ℤ pos K in
    let right' = subst (λ (n : ℕ). IsOver n fall sum) turned right in
    let ab = conducts K Y l q y a b some by_y is_y is_a is_b in
    let ae = conducts K S l r x a e some by_s is_x is_a is_e in
    let P = int_min o t in
    let Q = int_min z t in
    let R = int_max (o -ℤ t) (pos 0) in
    let W = int_max (z -ℤ t) (pos 0) in
    let same : int_max o t -ℤ int_max z t ≡ R -ℤ W = omega (arith, ints, max_above o t, max_above z t) in
    same_over (K * (K * M)) _ _ _ _ (mul-pos some (mul-pos some more)) left right'
    (ring_of a b e P Q R W
    ∙ (λ i. sym ab i *ℤ (P -ℤ Q) +ℤ sym ae i *ℤ (R -ℤ W))
    ∙ sym (scaled_ring y x (pos K) P Q R W)
    ∙ (λ i. (y *ℤ (P -ℤ Q) +ℤ x *ℤ sym same i) *ℤ pos K))

sum_positive : (t : Ratio) (n : ℕ) → 0 < t.num → 0 < (geometric t (suc n)).num
unfolding geometric
sum_positive t n some =
    let last : 0 < (power t n).num * ratio_den (geometric t n) = mul-pos (power-positive t n some) (omega arith) in
    omega (arith, (value_plus (own_value (geometric t n)) (own_value (power t n))).num, last)

regrouped : (s a b : Ratio) → SameRatio (product (product s a) b) (product s (product a b))
regrouped s a b =
    same_by (value_times (value_times (own_value s) (own_value a)) (own_value b)) (value_times (own_value s) (value_times (own_value a) (own_value b))) (omega arith)

-- over a step of a period that lasts
module _ (m : FlowModel) (w : ConvertibleLayers) (p : Period) (n c : ℕ) (lasts : Lasts p) where
  abbrev P : Ratio
  P = size p.perlen

  abbrev W : Ratio
  W = power (size p.tsmult) (n - 1)

  abbrev G : Ratio
  G = geometric (size p.tsmult) p.nstp

  sum_some : 0 < G.num
  sum_some =
      let last : suc (p.nstp - 1) ≡ p.nstp = omega (arith, lasts.nstp) in
      subst (λ k. 0 < (geometric (size p.tsmult) k).num) last (sum_positive (size p.tsmult) (p.nstp - 1) (size_positive p.tsmult lasts.tsmult))

  length_some : 0 < P.num * W.num
  length_some = mul-pos (size_positive p.perlen lasts.perlen) (power-positive (size p.tsmult) (n - 1) (size_positive p.tsmult lasts.tsmult))

  -- a capacity over the length, as a step's storage is formed, is the capacity times one over the length
  by_length : (a q : Ratio) → SameRatio a q → (over (product a G) (product P W)).num * (ratio_den (over one (over (product P W) G)) * ratio_den q) ≡
      ((over one (over (product P W) G)).num * q.num) * ratio_den (over (product a G) (product P W))
  by_length a q same =
      let length = value_over sum_some (value_times (own_value P) (own_value W)) (own_value G) in
      let one_over = value_over (mul-pos length_some (omega arith)) value_one length in
      let formed = value_over length_some (value_times (own_value a) (own_value G)) (value_times (own_value P) (own_value W)) in
      let k = (G.num * (ratio_den P * ratio_den W)) * ((P.num * W.num) * ratio_den G) in
      let e : (a.num * ratio_den q) * k ≡ (q.num * ratio_den a) * k = ap (λ x. x * k) same.cross in
      cross_by (own_value (over (product a G) (product P W))) (value_times (own_value (over one (over (product P W) G))) (own_value q))
      (same_by formed (value_times one_over (own_value q)) (omega (arith, e)))

  pub compressed_is : (storage m p n c).num * (ratio_den (over one (step_length p n)) * ratio_den (storage_capacity m c)) ≡
      ((over one (step_length p n)).num * (storage_capacity m c).num) * ratio_den (storage m p n c)
  unfolding storage step_length
  compressed_is = by_length (storage_capacity m c) (storage_capacity m c) (record { cross = refl })

  pub drained_is : (storage (with_yield m w) p n c).num * (ratio_den (over one (step_length p n)) * ratio_den (product (size (dec_at w.sy c)) (area m c))) ≡
      ((over one (step_length p n)).num * (product (size (dec_at w.sy c)) (area m c)).num) * ratio_den (storage (with_yield m w) p n c)
  unfolding storage step_length area
  drained_is = by_length (storage_capacity (with_yield m w) c) (product (size (dec_at w.sy c)) (area m c))
      (regrouped (size (dec_at w.sy c)) (size (delr_at m c)) (size (delc_at m c)))

-- The same without a top, and bounds of a number that is the same as another one.
whole_ring : (a e o z : ℤ) → a *ℤ (e *ℤ o -ℤ e *ℤ z) ≡ (a *ℤ e) *ℤ (o -ℤ z)
whole_ring a e o z = rw (as_diff a, as_diff e, as_diff o, as_diff z) (simp diffs (same_diff _ _ _ _ (omega arith)))

one_ring : (x k o z : ℤ) → (x *ℤ (o -ℤ z)) *ℤ k ≡ (x *ℤ k) *ℤ (o -ℤ z)
one_ring x k o z = rw (as_diff x, as_diff k, as_diff o, as_diff z) (simp diffs (same_diff _ _ _ _ (omega arith)))

pub fall_over_step : (S l r : Ratio) (old v : Fraction) → S.num * (ratio_den l * ratio_den r) ≡ (l.num * r.num) * ratio_den S →
    Same (times (as_fraction l) (minus (times (as_fraction r) old) (times (as_fraction r) v))) (times (as_fraction S) (minus old v))
fall_over_step S l r old v by_s =
    let (K, some, at) = common_denominator_exists 3 (among (as_fraction l ∷ as_fraction r ∷ as_fraction S ∷ [])) in
    let (M, more, heads) = common_denominator_exists 2 (among (old ∷ v ∷ [])) in
    let (a, is_a) = at 0 (omega arith) in
    let (e, is_e) = at 1 (omega arith) in
    let (x, is_x) = at 2 (omega arith) in
    let (o, is_o) = heads 0 (omega arith) in
    let (z, is_z) = heads 1 (omega arith) in
    let left = IsOver-times K (K * M) _ _ _ _ is_a (IsOver-minus (K * M) _ _ _ _ (IsOver-times K M _ _ _ _ is_e is_o) (IsOver-times K M _ _ _ _ is_e is_z)) in
    let right = over_multiple (K * M) K _ _ (IsOver-times K M _ _ _ _ is_x (IsOver-minus M _ _ _ _ is_o is_z)) in
    let turned : (K * M) * K ≡ K * (K * M) = omega arith in
    let ae = conducts K S l r x a e some by_s is_x is_a is_e in
    same_over (K * (K * M)) _ _ _ _ (mul-pos some (mul-pos some more)) left
    (subst (λ (n : ℕ). IsOver n (times (as_fraction S) (minus old v)) ((x *ℤ (o -ℤ z)) *ℤ pos K)) turned right)
    (whole_ring a e o z ∙ (λ i. sym ae i *ℤ (o -ℤ z)) ∙ sym (one_ring x (pos K) o z))

pub enclosed_same : (lo hi : ℤ) (k : ℕ) (g f : Fraction) → Same g f → EnclosesSigned lo hi k f → EnclosesSigned lo hi k g
enclosed_same lo hi k g f same h =
    let n = den f * den g in
    let (y, over_f) = fraction_over n (10 ^ k) f (Goes-first (den f) (den g)) in
    let (z, over_g) = fraction_over n (10 ^ k) g (Goes-second (den f) (den g)) in
    let some : 0 < n = mul-pos (omega arith) (omega arith) in
    let there = over_le (n * 10 ^ k) f g y z over_f over_g (record { at_most = le-of _ _ (sym same.same) }) in
    let back = over_le (n * 10 ^ k) g f z y over_g over_f (record { at_most = le-of _ _ same.same }) in
    let inside = between_over lo hi k n f y h over_f in
    enclosed_over lo hi k n g z some over_g (omega (arith, ints, inside.lower, there)) (omega (arith, ints, inside.upper, back))
