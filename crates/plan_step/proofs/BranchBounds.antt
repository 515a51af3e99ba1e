-- The branch of a river, a drain or an evapotranspiration lies within the bounds that both plans' heads give it.
use Rattle.plan_step.proofs.Common.{◌≡◌, ◌≤◌, ◌<◌, ◌*◌, ◌+◌, ◌-◌, ◌^◌, ◌∙◌, inl, inr, min, ℕ, ap, arith, mul-pos, refl, subst, sym, ℤ, pos, ◌+ℤ◌, ◌-ℤ◌, ◌*ℤ◌, ◌≤ℤ◌, ◌<ℤ◌, int_max, int_min}
use Rattle.plan_step.proofs.Common.{mul-le-mul_left, mul-le-mul_right, cases_lt, by_lt_z, clamps, ints, mul_mono_right, Encloses, Fraction, IsOver, Ratio, den, sub_mul, Goes-first, Goes-second}
use Rattle.plan_step.proofs.Common.{fraction_over, whole_drain, whole_evap, whole_river, ExactFixed, FixedEncloses, drain_flow, evap_flow, river_flow, share, IsRampBranch, IsPart, mul_sub, High, Low}
use Rattle.plan_step.proofs.Common.{DrainsAreEnclosed, EvapsAreEnclosed, RiversAreEnclosed, acting, branch}
use Rattle.std.proofs.Math.IntN.{zero-*ℤ}
use Rattle.decimal_input.specs.Ratios.{den as ratio_den}
use Rattle.cell_balance.proofs.{Enclosed.between_over, ExactLaws.heads_over}
use Rattle.plan_difference.proofs.RampBranches.{branch_over, drain_kind, evap_kind, part_den, part_of, river_kind}
use Rattle.plan_step.proofs.{Corners.high_corner, Corners.low_corner, Stretches.IsStretch, Stretches.stretch}

-- both plans' heads at a cell, a top and a foot, as whole numbers over n * 10^9
record Placed (d : ℕ) (X Y : ℤ) (top foot : Fraction) : Type 0 where
  n : ℕ
  some : 0 < n
  x : ℤ
  y : ℤ
  t : ℤ
  f : ℤ
  over_x : IsOver (n * 10 ^ 9) (share d X) x
  over_y : IsOver (n * 10 ^ 9) (share d Y) y
  over_z : IsOver (n * 10 ^ 9) (share d (X -ℤ Y)) (x -ℤ y)
  over_t : IsOver (n * 10 ^ 9) top t
  over_f : IsOver (n * 10 ^ 9) foot f

placed : (d : ℕ) → 0 < d → (X Y : ℤ) (top foot : Fraction) → Placed d X Y top foot
placed d some X Y top foot =
    let m = den top * den foot in
    let (t, over_t) = fraction_over m (d * 10 ^ 9) top (Goes-first (den top) (den foot)) in
    let (f, over_f) = fraction_over m (d * 10 ^ 9) foot (Goes-second (den top) (den foot)) in
    record {
      n = m * d;
      some = mul-pos (mul-pos (omega arith) (omega arith)) some;
      x = X *ℤ pos (m * 10 ^ 9);
      y = Y *ℤ pos (m * 10 ^ 9);
      t = t;
      f = f;
      over_x = head m X;
      over_y = head m Y;
      over_z = subst (λ (k : ℤ). IsOver (m * d * 10 ^ 9) (share d (X -ℤ Y)) k) (sub_mul X Y (pos (m * 10 ^ 9))) (head m (X -ℤ Y));
      over_t = subst (λ (k : ℕ). IsOver k top t) (regroup m d (10 ^ 9)) over_t;
      over_f = subst (λ (k : ℕ). IsOver k foot f) (regroup m d (10 ^ 9)) over_f;
    }
  where
    regroup : (m d k : ℕ) → m * (d * k) ≡ m * d * k
    regroup m d k = omega arith

    turn : (m d k : ℕ) → m * k * d ≡ m * d * k
    turn m d k = omega arith

    head : (m : ℕ) (z : ℤ) → IsOver (m * d * 10 ^ 9) (share d z) (z *ℤ pos (m * 10 ^ 9))
    head m z = subst (λ (k : ℕ). IsOver k (share d z) (z *ℤ pos (m * 10 ^ 9))) (turn m d (10 ^ 9)) (heads_over (m * 10 ^ 9) d some z)

-- r of k parts of a conductance lie between what is no more and what is no less of its bounds
part_enclosed : (s a b lo hi k r : ℕ) (own : Ratio) → 0 < k → Encloses a b s own → lo * k ≤ a * r → b * r ≤ hi * k → Encloses (min lo hi) hi s (part_of own k r)
part_enclosed s a b lo hi k r own some own_bounds low high = record {
  lower = rw (part_den own k some) (below (min lo hi) lo (ratio_den own) k a r own.num (10 ^ s) (omega arith) low own_bounds.lower);
  upper = rw (part_den own k some) (above hi (ratio_den own) k b r own.num (10 ^ s) high own_bounds.upper);
}
  where
    below : (e lo n k a r c t : ℕ) → e ≤ lo → lo * k ≤ a * r → a * n ≤ c * t → e * (n * k) ≤ c * r * t
    below e lo n k a r c t less p q = omega (arith, mul-le-mul_right (n * k) less, mul-le-mul_right n p, mul-le-mul_right r q)

    above : (hi n k b r c t : ℕ) → b * r ≤ hi * k → c * t ≤ b * n → c * r * t ≤ hi * (n * k)
    above hi n k b r c t p q = omega (arith, mul-le-mul_right n p, mul-le-mul_right r q)

-- a branch with such a conductance is within the branch of the bounds
module _ (s id a b lo hi k r : ℕ) (z : Fraction) (own : Ratio) (some : 0 < k) (own_bounds : Encloses a b s own) (low : lo * k ≤ a * r) (high : b * r ≤ hi * k) where
  within_branch : (gives other : Fraction) (x : ExactFixed) → x.conductance ≡ part_of own k r → IsRampBranch id z own gives other x → FixedEncloses s (branch id lo hi) x
  within_branch gives other x e ramp = record {
    kind = sym ramp.kind;
    source = sym ramp.source;
    conductance = subst (Encloses (min lo hi) hi s) (sym e) (part_enclosed s a b lo hi k r own some own_bounds low high);
    head = rw ramp.head (record { lower = none (pos (10 ^ 9)); upper = none_above (pos (10 ^ 9)) });
  }
    where
      none : (k : ℤ) → (pos 0 *ℤ pos 1) ≤ℤ (pos 0 *ℤ k)
      none k = rw (zero-*ℤ k) (omega (arith, ints))

      none_above : (k : ℤ) → (pos 0 *ℤ k) ≤ℤ (pos 0 *ℤ pos 1)
      none_above k = rw (zero-*ℤ k) (omega (arith, ints))

-- the part above one foot
pub rivers_are_enclosed : RiversAreEnclosed
rivers_are_enclosed s id d X Y x y p r some is first second =
    let o = placed d some X Y r.stage r.bottom in
    let (k, at) = stretch o.x o.y in
    let (q, way) = at o.f in
    let part : IsPart o.x o.y (int_max o.x o.f) (int_max o.y o.f) = record { k = k; r = q; some = way.some; at_most = way.at_most; same = way.same } in
    let (b, e, ramp) = branch_over id d X Y (o.n * 10 ^ 9) (mul-pos o.some (omega arith)) o.x o.y o.t o.f o.over_x o.over_y o.over_z r.conductance r.stage r.bottom (λ v. river_flow v r) whole_river
    (λ t f y. int_max y f) (river_kind r) o.over_t o.over_f part in
    let bx = between_over x.low x.high 9 o.n (share d X) o.x first o.over_x in
    let by = between_over y.low y.high 9 o.n (share d Y) o.y second o.over_y in
    let foot = between_over p.bottom_lo p.bottom_hi 9 o.n r.bottom o.f is.bottom o.over_f in (
      b,
      ramp,
      within_branch s id p.lo p.hi (acting Low p.lo p.bottom_hi x.low y.low) (acting High p.hi p.bottom_lo x.high y.high) k q (share d (X -ℤ Y)) r.conductance way.some is.conductance
          (low_corner o.n o.some p.lo o.x o.y k o.f q x.low y.low p.bottom_hi way bx.lower by.lower foot.upper)
          (high_corner o.n o.some p.hi o.x o.y k o.f q x.high y.high p.bottom_lo way bx.upper by.upper foot.lower) _ _ b e ramp,
    )

pub drains_are_enclosed : DrainsAreEnclosed
drains_are_enclosed s id d X Y x y p r some is first second =
    let o = placed d some X Y r.elevation r.elevation in
    let (k, at) = stretch o.x o.y in
    let (q, way) = at o.f in
    let part : IsPart o.x o.y (int_max (o.x -ℤ o.f) (pos 0)) (int_max (o.y -ℤ o.f) (pos 0)) =
    record { k = k; r = q; some = way.some; at_most = way.at_most; same = ap (λ (z : ℤ). pos k *ℤ z) (lowered o.x o.y o.f) ∙ way.same } in
    let (b, e, ramp) = branch_over id d X Y (o.n * 10 ^ 9)
    (mul-pos o.some (omega arith)) o.x o.y o.t o.f o.over_x o.over_y o.over_z r.conductance r.elevation r.elevation (λ v. drain_flow v r) whole_drain
    (λ t f y. int_max (y -ℤ f) (pos 0)) (drain_kind r) o.over_t o.over_f part in
    let bx = between_over x.low x.high 9 o.n (share d X) o.x first o.over_x in
    let by = between_over y.low y.high 9 o.n (share d Y) o.y second o.over_y in
    let foot = between_over p.elev_lo p.elev_hi 9 o.n r.elevation o.f is.elevation o.over_f in (
      b,
      ramp,
      within_branch s id p.lo p.hi (acting Low p.lo p.elev_hi x.low y.low) (acting High p.hi p.elev_lo x.high y.high) k q (share d (X -ℤ Y)) r.conductance way.some is.conductance
          (low_corner o.n o.some p.lo o.x o.y k o.f q x.low y.low p.elev_hi way bx.lower by.lower foot.upper)
          (high_corner o.n o.some p.hi o.x o.y k o.f q x.high y.high p.elev_lo way bx.upper by.upper foot.lower) _ _ b e ramp,
    )
  where
    lowered : (x y f : ℤ) → int_max (x -ℤ f) (pos 0) -ℤ int_max (y -ℤ f) (pos 0) ≡ int_max x f -ℤ int_max y f
    lowered x y f = omega (arith, ints, clamps)

-- the part above the extinction elevation less the part above the surface
record IsLess (x y : ℤ) (k : ℕ) (t f : ℤ) (q r : ℕ) : Type 0 where
  less : r ≤ q
  same : pos k *ℤ (int_max (int_min x t -ℤ f) (pos 0) -ℤ int_max (int_min y t -ℤ f) (pos 0)) ≡ pos (q - r) *ℤ (x -ℤ y)

-- how far a head has risen between f and t, by the ways above either
rise_is : (v t f : ℤ) → int_max (int_min v t -ℤ f) (pos 0) ≡ int_max v f -ℤ int_max v (int_max t f) +ℤ (int_max t f -ℤ f)
rise_is v t f =
    by_lt_z t f
    (λ low. let top : int_max t f ≡ f = omega (arith, ints, clamps, low) in
    let least : int_min v t ≤ℤ t = omega (arith, ints, clamps) in
    let none : int_max (int_min v t -ℤ f) (pos 0) ≡ pos 0 = omega (arith, ints, clamps, low, least) in
    rw (none, top) (omega (arith, ints)))
    (λ high. let top : int_max t f ≡ t = omega (arith, ints, clamps, high) in
    rw top
    (by_lt_z v f
    (λ under. let least : int_min v t ≡ v = omega (arith, ints, clamps, under, high) in
    let none : int_max (v -ℤ f) (pos 0) ≡ pos 0 = omega (arith, ints, clamps, under) in
    let a : int_max v f ≡ f = omega (arith, ints, clamps, under) in
    let b : int_max v t ≡ t = omega (arith, ints, clamps, under, high) in
    rw (least, none, a, b) (omega (arith, ints)))
    (λ over. by_lt_z v t
    (λ between. let least : int_min v t ≡ v = omega (arith, ints, clamps, between) in
    let whole : int_max (v -ℤ f) (pos 0) ≡ v -ℤ f = omega (arith, ints, clamps, over) in
    let a : int_max v f ≡ v = omega (arith, ints, clamps, over) in
    let b : int_max v t ≡ t = omega (arith, ints, clamps, between) in
    rw (least, whole, a, b) (omega (arith, ints)))
    (λ above. let least : int_min v t ≡ t = omega (arith, ints, clamps, above) in
    let whole : int_max (t -ℤ f) (pos 0) ≡ t -ℤ f = omega (arith, ints, clamps, high) in
    let a : int_max v f ≡ v = omega (arith, ints, clamps, over) in
    let b : int_max v t ≡ v = omega (arith, ints, clamps, above) in
    rw (least, whole, a, b) (omega (arith, ints))))))

above_less : (x y : ℤ) (k : ℕ) (t f : ℤ) (q r : ℕ) → IsStretch x y k f q → IsStretch x y k (int_max t f) r → IsLess x y k t f q r
above_less x y k t f q r low high = record {
  less = less;
  same =
      let a = int_max x f -ℤ int_max y f in
      let b = int_max x (int_max t f) -ℤ int_max y (int_max t f) in
      let first : pos k *ℤ (int_max (int_min x t -ℤ f) (pos 0) -ℤ int_max (int_min y t -ℤ f) (pos 0)) ≡ pos k *ℤ (a -ℤ b) = ap (λ (z : ℤ). pos k *ℤ z) capped in
      let second : pos k *ℤ (a -ℤ b) ≡ pos k *ℤ a -ℤ pos k *ℤ b = mul_sub (pos k) a b in
      let third : pos k *ℤ a -ℤ pos k *ℤ b ≡ pos q *ℤ (x -ℤ y) -ℤ pos r *ℤ (x -ℤ y) = rw (low.same, high.same) refl in
      let fourth : pos q *ℤ (x -ℤ y) -ℤ pos r *ℤ (x -ℤ y) ≡ pos (q - r) *ℤ (x -ℤ y) = sym (sub_mul (pos q) (pos r) (x -ℤ y)) ∙ ap (λ (c : ℤ). c *ℤ (x -ℤ y)) taken in
      first ∙ second ∙ third ∙ fourth;
}
  where
    capped : int_max (int_min x t -ℤ f) (pos 0) -ℤ int_max (int_min y t -ℤ f) (pos 0) ≡ (int_max x f -ℤ int_max y f) -ℤ (int_max x (int_max t f) -ℤ int_max y (int_max t f))
    capped = omega (arith, ints, rise_is x t f, rise_is y t f)

    less : r ≤ q
    less =
        by_lt_z (int_min x y) f
        (λ under. let deep : int_min x y <ℤ int_max t f = omega (arith, ints, clamps, under) in
        by_lt_z (int_max t f) (int_max x y)
        (λ over. let wide = low.across under (omega (arith, ints, clamps, over)) in let narrow = high.across deep over in omega (arith, ints, clamps, wide.1, narrow.1))
        (λ flat. omega (arith, high.below deep flat)))
        (λ up. omega (arith, low.above up, high.at_most))

    taken : pos q -ℤ pos r ≡ pos (q - r)
    taken = omega (arith, ints, less)

whole : (u v k : ℕ) → v ≤ u → (u - v) * k + v * k ≡ u * k
whole u v k h = let e : (u - v) + v ≡ u = omega arith in omega (arith, ap (λ (z : ℕ). z * k) e)

whole_left : (c q r : ℕ) → r ≤ q → c * (q - r) + c * r ≡ c * q
whole_left c q r h = let e : (q - r) + r ≡ q = omega arith in omega (arith, ap (λ (z : ℕ). c * z) e)

evap_low : (c k q r u v : ℕ) → u * k ≤ c * q → c * r ≤ v * k → (u - v) * k ≤ c * (q - r)
evap_low c k q r u v low high = elim (cases_lt v u) [
  | inl more ↦
      let split : (u - v) * k + v * k ≡ u * k = whole u v k (omega arith) in
      elim (cases_lt r q) [
        | inl over ↦ let parts : c * (q - r) + c * r ≡ c * q = whole_left c q r (omega arith) in omega (arith, split, parts, low, high)
        | inr under ↦ omega (arith, split, low, high, mul-le-mul_left c under)
      ]
  | inr less ↦ let none : u - v ≡ 0 = omega arith in rw none (omega arith)
]

evap_high : (c k q r u v : ℕ) → r ≤ q → c * q ≤ u * k → v * k ≤ c * r → c * (q - r) ≤ (u - v) * k
evap_high c k q r u v less high low =
    let parts : c * (q - r) + c * r ≡ c * q = whole_left c q r less in
    elim (cases_lt v u) [
      | inl more ↦ let split : (u - v) * k + v * k ≡ u * k = whole u v k (omega arith) in omega (arith, split, parts, high, low)
      | inr most ↦ omega (arith, parts, high, low, mul-le-mul_right k most)
    ]

pub evaps_are_enclosed : EvapsAreEnclosed
evaps_are_enclosed s id d X Y x y p r some is first second =
    let o = placed d some X Y r.surface r.extinction in
    let (k, at) = stretch o.x o.y in
    let (q, way) = at o.f in
    let (w, high_way) = at (int_max o.t o.f) in
    let apart = above_less o.x o.y k o.t o.f q w way high_way in
    let part : IsPart o.x o.y (int_max (int_min o.x o.t -ℤ o.f) (pos 0)) (int_max (int_min o.y o.t -ℤ o.f) (pos 0)) =
    record { k = k; r = q - w; some = way.some; at_most = omega (arith, way.at_most); same = apart.same } in
    let (b, e, ramp) = branch_over id d X Y (o.n * 10 ^ 9)
    (mul-pos o.some (omega arith)) o.x o.y o.t o.f o.over_x o.over_y o.over_z r.conductance r.surface r.extinction (λ v. evap_flow v r) whole_evap
    (λ t f y. int_max (int_min y t -ℤ f) (pos 0)) (evap_kind r) o.over_t o.over_f part in
    let bx = between_over x.low x.high 9 o.n (share d X) o.x first o.over_x in
    let by = between_over y.low y.high 9 o.n (share d Y) o.y second o.over_y in
    let foot = between_over p.ext_lo p.ext_hi 9 o.n r.extinction o.f is.extinction o.over_f in
    let top = between_over p.surf_lo p.surf_hi 9 o.n r.surface o.t is.surface o.over_t in
    let highest = higher o.n p.surf_hi p.ext_hi o.t o.f top.upper foot.upper in
    let lowest : (p.surf_lo *ℤ pos o.n) ≤ℤ int_max o.t o.f = omega (arith, ints, clamps, top.lower) in (
      b,
      ramp,
      within_branch s id p.lo p.hi _ _ k (q - w) (share d (X -ℤ Y)) r.conductance way.some is.conductance
          (evap_low p.lo k q w (acting Low p.lo p.ext_hi x.low y.low) (acting High p.lo p.surf_lo x.high y.high)
          (low_corner o.n o.some p.lo o.x o.y k o.f q x.low y.low p.ext_hi way bx.lower by.lower foot.upper)
          (high_corner o.n o.some p.lo o.x o.y k (int_max o.t o.f) w x.high y.high p.surf_lo high_way bx.upper by.upper lowest))
          (evap_high p.hi k q w (acting High p.hi p.ext_lo x.high y.high) (acting Low p.hi (int_max p.surf_hi p.ext_hi) x.low y.low) apart.less
          (high_corner o.n o.some p.hi o.x o.y k o.f q x.high y.high p.ext_lo way bx.upper by.upper foot.lower)
          (low_corner o.n o.some p.hi o.x o.y k (int_max o.t o.f) w x.low y.low (int_max p.surf_hi p.ext_hi) high_way bx.lower by.lower highest)) _ _ b e ramp,
    )
  where
    higher : (n : ℕ) (a b t f : ℤ) → t ≤ℤ (a *ℤ pos n) → f ≤ℤ (b *ℤ pos n) → int_max t f ≤ℤ (int_max a b *ℤ pos n)
    higher n a b t f h k =
        let first = mul_mono_right n a (int_max a b) (omega (arith, ints, clamps)) in
        let second = mul_mono_right n b (int_max a b) (omega (arith, ints, clamps)) in
        omega (arith, ints, clamps, h, k, first, second)
