-- The saturated thickness lies between its two decimals, at all heads within the bounds.
use Rattle.water_conductances.proofs.Common.{◌≡◌, ℕ, ◌*◌, ◌^◌, ◌<◌, ◌≤◌, Bool, true, false, cond, refl, subst, arith, ℤ, pos, negsuc, neg_ℤ, ◌-ℤ◌, ◌*ℤ◌, ◌≤ℤ◌, ◌<ℤ◌, List, mul-pos, by_lt_z, clamps}
use Rattle.water_conductances.proofs.Common.{ints, int_min, int_lt, not, unsigned_abs, ◌||◌, units_ceiling, units_floor, IsBetween, thick_span, floor_ceiling_enclose, mul_mono_right}
use Rattle.water_conductances.proofs.Common.{last_factors_swap, EnclosesSigned, Fraction, IsOver, IsShare, Ratio, number, den, gap, IsModel, bottom_at, cell_count, is_active, thickness, top_at, Lower}
use Rattle.water_conductances.proofs.Common.{Upper, is_rounded, rounded_positive, span_positive, thick_between, Span, Dec, FlowModel, HeadsEnclose, Bound, lower_at, upper_at, ConvertibleLayers}
use Rattle.water_conductances.proofs.Common.{is_convertible, has_depth, least_units, most_units, saturated_span}
use Rattle.std.proofs.Math.Nat.{mul-le-mul_right, le_of_mul-le-mul_right}
use Rattle.cell_balance.proofs.{Deep.sub_mul, Denominators.Goes-first, Denominators.Goes-second, Denominators.fraction_over, Denominators.left_goes, Denominators.right_goes, Enclosed.between_over}
use Rattle.cell_balance.proofs.{Scaling.IsOver-lesser, Scaling.min_times}
use Rattle.cell_balance.specs.{lesser}
use Rattle.decimal_input.specs.Ratios.{den as ratio_den}
use Rattle.step_problem.proofs.Leasts.{mul_assoc}
use Rattle.pair_flows.proofs.Ordered.{is_less}
use Rattle.water_enclosure.proofs.Thick.{gap_share}
use Rattle.decimal_input.proofs.{Orders.AtMost-trans, Powers.den_scaled, Powers.num_scaled}
unfoldable use Rattle.water_conductances.specs.{span_of_units}
unfoldable use Rattle.decimal_input.specs.{scaled_ratio}
unfoldable use Rattle.conductance_bounds.specs.{units_at}
unfoldable use Rattle.water_table.specs.{saturated_thickness}

-- a head in units of 10^-18
finer : (lo hi : ℤ) (v : Fraction) → EnclosesSigned lo hi 9 v → EnclosesSigned (lo *ℤ pos (10 ^ 9)) (hi *ℤ pos (10 ^ 9)) 18 v
finer lo hi v h =
    let e : (v.num *ℤ pos (10 ^ 9)) *ℤ pos (10 ^ 9) ≡ v.num *ℤ pos (10 ^ 18) = mul_assoc v.num (pos (10 ^ 9)) (pos (10 ^ 9)) in
    let low : ((lo *ℤ pos (den v)) *ℤ pos (10 ^ 9)) ≤ℤ ((v.num *ℤ pos (10 ^ 9)) *ℤ pos (10 ^ 9)) = mul_mono_right (10 ^ 9) _ _ h.lower in
    let high : ((v.num *ℤ pos (10 ^ 9)) *ℤ pos (10 ^ 9)) ≤ℤ ((hi *ℤ pos (den v)) *ℤ pos (10 ^ 9)) = mul_mono_right (10 ^ 9) _ _ h.upper in
    record {
      lower = subst (λ (z : ℤ). ((lo *ℤ pos (10 ^ 9)) *ℤ pos (den v)) ≤ℤ z) e
          (subst (λ (z : ℤ). z ≤ℤ ((v.num *ℤ pos (10 ^ 9)) *ℤ pos (10 ^ 9))) (last_factors_swap lo (pos (den v)) (pos (10 ^ 9))) low);
      upper = subst (λ (z : ℤ). z ≤ℤ ((hi *ℤ pos (10 ^ 9)) *ℤ pos (den v))) e
          (subst (λ (z : ℤ). ((v.num *ℤ pos (10 ^ 9)) *ℤ pos (10 ^ 9)) ≤ℤ z) (last_factors_swap hi (pos (den v)) (pos (10 ^ 9))) high);
    }

-- magnitudes of numbers above 0
at_least : (x y : ℤ) (d : ℕ) → pos 0 <ℤ x → pos 0 <ℤ y → (x *ℤ pos d) ≤ℤ y → unsigned_abs x * d ≤ unsigned_abs y
at_least (pos n) (pos k) d a b h = omega (arith, ints, h)
at_least (pos n) (negsuc k) d a b h = absurd (omega (arith, ints, b))
at_least (negsuc n) y d a b h = absurd (omega (arith, ints, a))

at_most : (x y : ℤ) (d : ℕ) → pos 0 <ℤ x → pos 0 <ℤ y → y ≤ℤ (x *ℤ pos d) → unsigned_abs y ≤ unsigned_abs x * d
at_most (pos n) (pos k) d a b h = omega (arith, ints, h)
at_most (pos n) (negsuc k) d a b h = absurd (omega (arith, ints, b))
at_most (negsuc n) y d a b h = absurd (omega (arith, ints, a))

-- n units of 10^-18 beside g = N / (d * 10^18)
below_share : (n N d p a x : ℕ) → 0 < d → n * d ≤ N → a * (d * p) ≡ N * x → n * x ≤ a * p
below_share n N d p a x some le e = le_of_mul-le-mul_right {k = d} (omega (arith, mul-le-mul_right x le, e)) some

above_share : (n N d p a x : ℕ) → 0 < d → N ≤ n * d → a * (d * p) ≡ N * x → a * p ≤ n * x
above_share n N d p a x some le e = le_of_mul-le-mul_right {k = d} (omega (arith, mul-le-mul_right x le, e)) some

-- Of a head v, a top and a bottom between whole units of 10^-18.
module _ (v T B : Fraction) (lo hi tl th bl bh : ℤ) (head : EnclosesSigned lo hi 18 v) (top : EnclosesSigned tl th 18 T) (bottom : EnclosesSigned bl bh 18 B)
    (deep : pos 0 <ℤ (int_min lo tl -ℤ bh)) where
  abbrev d : ℕ
  d = den v * (den T * den B)

  abbrev g : Ratio
  g = gap (lesser v T) B

  some_d : 0 < d
  some_d = mul-pos (omega arith) (mul-pos (omega arith) (omega arith))

  pub record Wholes : Type 0 where
    pub L : ℤ
    pub b : ℤ
    pub lesser_over : IsOver (d * 10 ^ 18) (lesser v T) L
    pub bottom_over : IsOver (d * 10 ^ 18) B b
    pub low : ((int_min lo tl -ℤ bh) *ℤ pos d) ≤ℤ (L -ℤ b)
    pub high : (L -ℤ b) ≤ℤ ((int_min hi th -ℤ bl) *ℤ pos d)

  wholes : Wholes
  wholes =
      let (x, ox) = fraction_over d (10 ^ 18) v (Goes-first (den v) (den T * den B)) in
      let rest = Goes-second (den v) (den T * den B) in
      let (t, ot) = fraction_over d (10 ^ 18) T (left_goes (den T) (den B) d rest) in
      let (b, ob) = fraction_over d (10 ^ 18) B (right_goes (den T) (den B) d rest) in
      let p = between_over lo hi 18 d v x head ox in
      let q = between_over tl th 18 d T t top ot in
      let r = between_over bl bh 18 d B b bottom ob in
      record {
        L = int_min x t;
        b = b;
        lesser_over = IsOver-lesser (d * 10 ^ 18) v T x t ox ot;
        bottom_over = ob;
        low = omega (arith, ints, clamps, sub_mul (int_min lo tl) bh (pos d), min_times d lo tl, p.lower, q.lower, r.upper);
        high = omega (arith, ints, clamps, sub_mul (int_min hi th) bl (pos d), min_times d hi th, p.upper, q.upper, r.lower);
      }

  above : pos 0 <ℤ (wholes.L -ℤ wholes.b)
  above = omega (arith, ints, wholes.low, mul_mono_right d (pos 1) (int_min lo tl -ℤ bh) (omega (arith, ints, deep)), some_d)

  most_above : pos 0 <ℤ (int_min hi th -ℤ bl)
  most_above = by_lt_z (pos 0) (int_min hi th -ℤ bl) (λ lt. lt) (λ le. absurd (omega (arith, ints, above, wholes.high, mul_mono_right d (int_min hi th -ℤ bl) (pos 0) le)))

  share_is : IsShare (d * 10 ^ 18) g (unsigned_abs (wholes.L -ℤ wholes.b))
  share_is = gap_share (d * 10 ^ 18) (lesser v T) B wholes.L wholes.b (mul-pos some_d (omega arith)) wholes.lesser_over wholes.bottom_over (omega (arith, ints, above))

  pub wet_positive : 0 < (span_of_units (int_min lo tl -ℤ bh) (int_min hi th -ℤ bl)).lo.m
  unfolding span_of_units
  wet_positive = rounded_positive (scaled_ratio (unsigned_abs (int_min lo tl -ℤ bh)) (neg_ℤ (pos 18)))
      (rw (num_scaled (unsigned_abs (int_min lo tl -ℤ bh)) (neg_ℤ (pos 18))) (omega (arith, ints, deep)))

  pub wet_between : IsBetween (span_of_units (int_min lo tl -ℤ bh) (int_min hi th -ℤ bl)).lo (span_of_units (int_min lo tl -ℤ bh) (int_min hi th -ℤ bl)).hi g
  unfolding span_of_units
  wet_between =
      let n = unsigned_abs (int_min lo tl -ℤ bh) in
      let k = unsigned_abs (int_min hi th -ℤ bl) in
      let N = unsigned_abs (wholes.L -ℤ wholes.b) in
      let low = below_share n N d (10 ^ 18) g.num (ratio_den g) some_d (at_least (int_min lo tl -ℤ bh) (wholes.L -ℤ wholes.b) d deep above wholes.low) share_is.is in
      let high = above_share k N d (10 ^ 18) g.num (ratio_den g) some_d (at_most (int_min hi th -ℤ bl) (wholes.L -ℤ wholes.b) d most_above above wholes.high) share_is.is in
      record {
        lower = AtMost-trans (is_rounded Lower _).at_most (record { cross = rw (num_scaled n (neg_ℤ (pos 18)), den_scaled n (neg_ℤ (pos 18))) (omega (arith, low)) });
        upper = AtMost-trans (record { cross = rw (num_scaled k (neg_ℤ (pos 18)), den_scaled k (neg_ℤ (pos 18))) (omega (arith, high)) }) (is_rounded Upper _).at_least;
      }

-- The decimals of the saturated thickness of an active cell.
pub record IsSpanOf (m : FlowModel) (w : ConvertibleLayers) (h : ℕ → Fraction) (c : ℕ) (t : Span) : Type 0 where
  pub some : 0 < t.lo.m
  pub between : IsBetween t.lo t.hi (saturated_thickness m w h c)

module _ (m : FlowModel) (w : ConvertibleLayers) (heads : List Bound) (h : ℕ → Fraction) (valid : IsModel m) (within : HeadsEnclose m heads h)
    (c : ℕ) (lt : c < cell_count m.grid) (active : is_active m c ≡ true) where
  abbrev thick_by : Bool → Ratio
  thick_by b = cond b (gap (lesser (h c) (number (top_at m c))) (number (bottom_at m c))) (thickness m c)

  abbrev span_by : Bool → Span
  span_by b = cond b (span_of_units (least_units m heads c) (most_units m heads c)) (thick_span m c)

  exact_units : (x : Dec) → EnclosesSigned (units_at Lower x 18) (units_at Upper x 18) 18 (number x)
  exact_units x = floor_ceiling_enclose (number x) 18 _ _ (units_floor x 18) (units_ceiling x 18)

  wet : int_lt (pos 0) (least_units m heads c) ≡ true → (0 < (span_by true).lo.m) × IsBetween (span_by true).lo (span_by true).hi (thick_by true)
  wet deep =
      let head = finer (lower_at heads c) (upper_at heads c) (h c) (within c (record { within = lt; active = active })) in
      let top = exact_units (top_at m c) in
      let bottom = exact_units (bottom_at m c) in
      let some = is_less (pos 0) (least_units m heads c) deep in (
        wet_positive (h c) (number (top_at m c)) (number (bottom_at m c)) _ _ _ _ _ _ head top bottom some,
        wet_between (h c) (number (top_at m c)) (number (bottom_at m c)) _ _ _ _ _ _ head top bottom some,
      )

  full : (0 < (span_by false).lo.m) × IsBetween (span_by false).lo (span_by false).hi (thick_by false)
  full =
      let thick = (valid.cells c lt active).thick in
      (span_positive (top_at m c) (bottom_at m c) thick, thick_between (top_at m c) (bottom_at m c) thick)

  by_layer : (b : Bool) → (not b || int_lt (pos 0) (least_units m heads c)) ≡ true → (0 < (span_by b).lo.m) × IsBetween (span_by b).lo (span_by b).hi (thick_by b)
  by_layer true deep = wet deep
  by_layer false deep = full

  pub span_is : has_depth m w heads c ≡ true → IsSpanOf m w h c (saturated_span m w heads c)
  unfolding saturated_thickness
  span_is deep = let both = by_layer (is_convertible m w c) deep in record { some = both.0; between = both.1 }
