-- LPF's four cases of storage, in whole numbers over one denominator.
use Rattle.water_table.proofs.Common.{◌≡◌, ℕ, ◌*◌, ◌<◌, arith, ap, subst, sym, ℤ, pos, ◌+ℤ◌, ◌-ℤ◌, ◌*ℤ◌, [], ◌∷◌, Bool, true, cond, mul-pos, ints, clamps, over_le, same_over, IsOver-plus}
use Rattle.water_table.proofs.Common.{IsOver-minus, IsOver-times, IsOver-lesser, IsOver-greater, IsOver-none, Fraction, IsOver, Ratio, as_fraction, number, whole, AtMost, Same, minus, lesser, greater}
use Rattle.water_table.proofs.Common.{mul_sub, FlowModel, ConvertibleLayers, size, area, dec_at, storage_capacity, top_at, compressed_water, drainable_water, is_convertible, LosesByCases, over_fall}
use Rattle.water_table.proofs.Common.{*ℤ-zero}
use Rattle.std.specs.Int.{int_max, int_min}
use Rattle.decimal_input.specs.{Fractions.plus, Fractions.times, Ratios.times as product}
use Rattle.water_table.proofs.Orders.{common_denominator_exists, among}
unfoldable use Rattle.water_table.specs.{stored_water}

-- q per unit of head up to the top, r per unit above it
abbrev pub stored : Ratio → Ratio → Fraction → Fraction → Fraction
stored q r top v = plus (times (as_fraction q) (lesser v top)) (times (as_fraction r) (greater (minus v top) (whole (pos 0))))

below_ring : (q r o z : ℤ) → (q *ℤ o +ℤ r *ℤ pos 0) -ℤ (q *ℤ z +ℤ r *ℤ pos 0) ≡ q *ℤ (o -ℤ z)
below_ring q r o z = rw *ℤ-zero (omega (arith, ints, mul_sub q o z))

above_ring : (q r o z t : ℤ) → (q *ℤ t +ℤ r *ℤ (o -ℤ t)) -ℤ (q *ℤ t +ℤ r *ℤ (z -ℤ t)) ≡ r *ℤ (o -ℤ z)
above_ring q r o z t = omega (arith, ints, mul_sub r o t, mul_sub r z t, mul_sub r o z)

falls_ring : (q r o z t : ℤ) → (q *ℤ t +ℤ r *ℤ (o -ℤ t)) -ℤ (q *ℤ z +ℤ r *ℤ pos 0) ≡ r *ℤ (o -ℤ t) +ℤ q *ℤ (t -ℤ z)
falls_ring q r o z t = rw *ℤ-zero (omega (arith, ints, mul_sub q t z))

rises_ring : (q r o z t : ℤ) → (q *ℤ o +ℤ r *ℤ pos 0) -ℤ (q *ℤ t +ℤ r *ℤ (z -ℤ t)) ≡ q *ℤ (o -ℤ t) +ℤ r *ℤ (t -ℤ z)
rises_ring q r o z t = rw *ℤ-zero (omega (arith, ints, mul_sub q o t, mul_sub r z t, mul_sub r t z))

-- the quantities and the heads in whole numbers
record InWholes (q r : Ratio) (top old v : Fraction) : Type 0 where
  K : ℕ
  M : ℕ
  some : 0 < K * M
  a : ℤ
  b : ℤ
  t : ℤ
  o : ℤ
  z : ℤ
  is_a : IsOver K (as_fraction q) a
  is_b : IsOver K (as_fraction r) b
  is_t : IsOver M top t
  is_o : IsOver M old o
  is_z : IsOver M v z

in_wholes : (q r : Ratio) (top old v : Fraction) → InWholes q r top old v
in_wholes q r top old v =
    let (K, some, at) = common_denominator_exists 2 (among (as_fraction q ∷ as_fraction r ∷ [])) in
    let (M, more, heads) = common_denominator_exists 3 (among (top ∷ old ∷ v ∷ [])) in
    let (a, is_a) = at 0 (omega arith) in
    let (b, is_b) = at 1 (omega arith) in
    let (t, is_t) = heads 0 (omega arith) in
    let (o, is_o) = heads 1 (omega arith) in
    let (z, is_z) = heads 2 (omega arith) in
    record { K = K; M = M; some = mul-pos some more; a = a; b = b; t = t; o = o; z = z; is_a = is_a; is_b = is_b; is_t = is_t; is_o = is_o; is_z = is_z }

module _ (q r : Ratio) (top old v : Fraction) (s : InWholes q r top old v) where
  abbrev water : ℤ → ℤ
  water x = s.a *ℤ int_min x s.t +ℤ s.b *ℤ int_max (x -ℤ s.t) (pos 0)

  water_over : (f : Fraction) (x : ℤ) → IsOver s.M f x → IsOver (s.K * s.M) (stored q r top f) (water x)
  water_over f x p =
      IsOver-plus (s.K * s.M) _ _ _ _ (IsOver-times s.K s.M _ _ _ _ s.is_a (IsOver-lesser s.M f top x s.t p s.is_t))
      (IsOver-times s.K s.M _ _ _ _ s.is_b (IsOver-greater s.M (minus f top) (whole (pos 0)) (x -ℤ s.t) (pos 0) (IsOver-minus s.M f top x s.t p s.is_t) (IsOver-none s.M)))

  loss_over : IsOver (s.K * s.M) (minus (stored q r top old) (stored q r top v)) (water s.o -ℤ water s.z)
  loss_over = IsOver-minus (s.K * s.M) _ _ _ _ (water_over old s.o s.is_o) (water_over v s.z s.is_z)

  fall_q : (f g : Fraction) (x y : ℤ) → IsOver s.M f x → IsOver s.M g y → IsOver (s.K * s.M) (over_fall q f g) (s.a *ℤ (x -ℤ y))
  fall_q f g x y p k = IsOver-times s.K s.M _ _ _ _ s.is_a (IsOver-minus s.M f g x y p k)

  fall_r : (f g : Fraction) (x y : ℤ) → IsOver s.M f x → IsOver s.M g y → IsOver (s.K * s.M) (over_fall r f g) (s.b *ℤ (x -ℤ y))
  fall_r f g x y p k = IsOver-times s.K s.M _ _ _ _ s.is_b (IsOver-minus s.M f g x y p k)

  both_below : AtMost old top → AtMost v top → Same (minus (stored q r top old) (stored q r top v)) (over_fall q old v)
  both_below h k =
      let ho = over_le s.M old top s.o s.t s.is_o s.is_t h in
      let hz = over_le s.M v top s.z s.t s.is_z s.is_t k in
      let e1 : int_min s.o s.t ≡ s.o = omega (arith, ints, clamps, ho) in
      let e2 : int_max (s.o -ℤ s.t) (pos 0) ≡ pos 0 = omega (arith, ints, clamps, ho) in
      let e3 : int_min s.z s.t ≡ s.z = omega (arith, ints, clamps, hz) in
      let e4 : int_max (s.z -ℤ s.t) (pos 0) ≡ pos 0 = omega (arith, ints, clamps, hz) in
      same_over (s.K * s.M) _ _ _ _ s.some loss_over (fall_q old v s.o s.z s.is_o s.is_z) (rw (e1, e2, e3, e4) (below_ring s.a s.b s.o s.z))

  both_above : AtMost top old → AtMost top v → Same (minus (stored q r top old) (stored q r top v)) (over_fall r old v)
  both_above h k =
      let ho = over_le s.M top old s.t s.o s.is_t s.is_o h in
      let hz = over_le s.M top v s.t s.z s.is_t s.is_z k in
      let e1 : int_min s.o s.t ≡ s.t = omega (arith, ints, clamps, ho) in
      let e2 : int_max (s.o -ℤ s.t) (pos 0) ≡ s.o -ℤ s.t = omega (arith, ints, clamps, ho) in
      let e3 : int_min s.z s.t ≡ s.t = omega (arith, ints, clamps, hz) in
      let e4 : int_max (s.z -ℤ s.t) (pos 0) ≡ s.z -ℤ s.t = omega (arith, ints, clamps, hz) in
      same_over (s.K * s.M) _ _ _ _ s.some loss_over (fall_r old v s.o s.z s.is_o s.is_z) (rw (e1, e2, e3, e4) (above_ring s.a s.b s.o s.z s.t))

  falls_across : AtMost top old → AtMost v top → Same (minus (stored q r top old) (stored q r top v)) (plus (over_fall r old top) (over_fall q top v))
  falls_across h k =
      let ho = over_le s.M top old s.t s.o s.is_t s.is_o h in
      let hz = over_le s.M v top s.z s.t s.is_z s.is_t k in
      let e1 : int_min s.o s.t ≡ s.t = omega (arith, ints, clamps, ho) in
      let e2 : int_max (s.o -ℤ s.t) (pos 0) ≡ s.o -ℤ s.t = omega (arith, ints, clamps, ho) in
      let e3 : int_min s.z s.t ≡ s.z = omega (arith, ints, clamps, hz) in
      let e4 : int_max (s.z -ℤ s.t) (pos 0) ≡ pos 0 = omega (arith, ints, clamps, hz) in
      same_over (s.K * s.M) _ _ _ _ s.some loss_over (IsOver-plus (s.K * s.M) _ _ _ _ (fall_r old top s.o s.t s.is_o s.is_t) (fall_q top v s.t s.z s.is_t s.is_z))
      (rw (e1, e2, e3, e4) (falls_ring s.a s.b s.o s.z s.t))

  rises_across : AtMost old top → AtMost top v → Same (minus (stored q r top old) (stored q r top v)) (plus (over_fall q old top) (over_fall r top v))
  rises_across h k =
      let ho = over_le s.M old top s.o s.t s.is_o s.is_t h in
      let hz = over_le s.M top v s.t s.z s.is_t s.is_z k in
      let e1 : int_min s.o s.t ≡ s.o = omega (arith, ints, clamps, ho) in
      let e2 : int_max (s.o -ℤ s.t) (pos 0) ≡ pos 0 = omega (arith, ints, clamps, ho) in
      let e3 : int_min s.z s.t ≡ s.t = omega (arith, ints, clamps, hz) in
      let e4 : int_max (s.z -ℤ s.t) (pos 0) ≡ s.z -ℤ s.t = omega (arith, ints, clamps, hz) in
      same_over (s.K * s.M) _ _ _ _ s.some loss_over (IsOver-plus (s.K * s.M) _ _ _ _ (fall_q old top s.o s.t s.is_o s.is_t) (fall_r top v s.t s.z s.is_t s.is_z))
      (rw (e1, e2, e3, e4) (rises_ring s.a s.b s.o s.z s.t))

stored_is : (m : FlowModel) (w : ConvertibleLayers) (c : ℕ) → is_convertible m w c ≡ true → (v : Fraction) →
    stored (product (size (dec_at w.sy c)) (area m c)) (storage_capacity m c) (number (top_at m c)) v ≡ stored_water m w c v
unfolding stored_water
stored_is m w c e v = ap (λ (b : Bool). cond b (plus (drainable_water m w c v) (compressed_water m w c v)) (times (as_fraction (storage_capacity m c)) v)) (sym e)

pub loses_by_cases : LosesByCases
loses_by_cases m w c old v e =
    let q = product (size (dec_at w.sy c)) (area m c) in
    let r = storage_capacity m c in
    let top = number (top_at m c) in
    let s = in_wholes q r top old v in
    let to = λ (g : Fraction) (p : Same (minus (stored q r top old) (stored q r top v)) g). turn m w c old v e g p in
    record {
      both_below = λ h k. to _ (both_below q r top old v s h k);
      both_above = λ h k. to _ (both_above q r top old v s h k);
      falls_across = λ h k. to _ (falls_across q r top old v s h k);
      rises_across = λ h k. to _ (rises_across q r top old v s h k);
    }
  where
    turn : (m : FlowModel) (w : ConvertibleLayers) (c : ℕ) (old v : Fraction) → is_convertible m w c ≡ true → (g : Fraction) →
        Same (minus (stored (product (size (dec_at w.sy c)) (area m c)) (storage_capacity m c) (number (top_at m c)) old)
        (stored (product (size (dec_at w.sy c)) (area m c)) (storage_capacity m c) (number (top_at m c)) v)) g →
        Same (minus (stored_water m w c old) (stored_water m w c v)) g
    turn m w c old v e g p = subst (λ (x : Fraction). Same (minus x (stored_water m w c v)) g) (stored_is m w c e old)
        (subst (λ (y : Fraction). Same (minus (stored (product (size (dec_at w.sy c)) (area m c)) (storage_capacity m c) (number (top_at m c)) old) y) g) (stored_is m w c e v) p)
