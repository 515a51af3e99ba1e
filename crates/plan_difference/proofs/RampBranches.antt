-- What a river, a drain or an evapotranspiration gives more at one head than at another is a branch to a known head of 0.
use Rattle.plan_difference.proofs.Common.{◌≡◌, ℕ, suc, ◌-◌, ◌*◌, ◌<◌, ◌≤◌, ◌∙◌, ap, sym, refl, subst, arith, mul-pos, ℤ, pos, neg_ℤ, ◌*ℤ◌, ◌-ℤ◌, mul-le-mul_left, clamps, ints, Fraction, IsOver, Ratio}
use Rattle.plan_difference.proofs.Common.{as_fraction, whole, den, as_diff, diffs, mul_assoc, mul_neg, same_diff, sub_mul, Goes-first, Goes-second, fraction_over, same_over, heads_over, IsOver-minus}
use Rattle.plan_difference.proofs.Common.{IsOver-none, IsOver-signed, IsOver-times, ExactDrain, ExactEvap, ExactFixed, ExactRiver, drain_flow, evap_flow, fixed_flow, minus, river_flow, share}
use Rattle.plan_difference.proofs.Common.{IsRampBranch, General}
use Rattle.std.specs.Int.{int_max, int_min}
use Rattle.decimal_input.specs.Ratios.{den as ratio_den}
use Rattle.cell_balance.proofs.{Over.EntryOver, Over.drain_over, Over.evap_over, Over.river_over, Zips.WholeEntry, Zips.whole_drain, Zips.whole_evap, Zips.whole_river}
use Rattle.plan_difference.proofs.Shares.{IsOnTheWay, IsPart, part_of_way}

-- A kind of ramp, by its whole numbers: what it gives falls by its conductance times how far the head rises on it.
pub record IsRampKind (own : Ratio) (top foot : Fraction) (flow : Fraction → Fraction) (whole_flow : ℤ → WholeEntry → ℤ) (rise : ℤ → ℤ → ℤ → ℤ) : Type 0 where
  pub over : (k m : ℕ) (v : Fraction) (y : ℤ) → IsOver m v y → (w : WholeEntry) → EntryOver k m own top foot w → IsOver (k * m) (flow v) (whole_flow y w)
  pub loss : (w : WholeEntry) (x y : ℤ) → whole_flow x w -ℤ whole_flow y w ≡ neg_ℤ (pos w.c *ℤ (rise w.top w.foot x -ℤ rise w.top w.foot y))
  pub way : (t f x y : ℤ) → IsOnTheWay x y (rise t f x) (rise t f y)

pub river_kind : (r : ExactRiver) → IsRampKind r.conductance r.stage r.bottom (λ v. river_flow v r) whole_river (λ t f y. int_max y f)
river_kind r = record {
  over = λ k m v y own w entry. river_over k m v y own r w entry;
  loss = λ w x y. ring (pos w.c) w.top (int_max x w.foot) (int_max y w.foot);
  way = λ t f x y. record { up = λ h. (omega (arith, ints, clamps), omega (arith, ints, clamps)); down = λ h. (omega (arith, ints, clamps), omega (arith, ints, clamps)) };
}
  where
    ring : (c t p q : ℤ) → c *ℤ (t -ℤ p) -ℤ c *ℤ (t -ℤ q) ≡ neg_ℤ (c *ℤ (p -ℤ q))
    ring c t p q = rw (as_diff c, as_diff t, as_diff p, as_diff q) (simp diffs (same_diff _ _ _ _ (omega arith)))

losses_differ : (c p q : ℤ) → neg_ℤ (c *ℤ p) -ℤ neg_ℤ (c *ℤ q) ≡ neg_ℤ (c *ℤ (p -ℤ q))
losses_differ c p q = rw (as_diff c, as_diff p, as_diff q) (simp diffs (same_diff _ _ _ _ (omega arith)))

pub drain_kind : (r : ExactDrain) → IsRampKind r.conductance r.elevation r.elevation (λ v. drain_flow v r) whole_drain (λ t f y. int_max (y -ℤ f) (pos 0))
drain_kind r = record {
  over = λ k m v y own w entry. drain_over k m v y own r w entry;
  loss = λ w x y. losses_differ (pos w.c) (int_max (x -ℤ w.foot) (pos 0)) (int_max (y -ℤ w.foot) (pos 0));
  way = λ t f x y. record { up = λ h. (omega (arith, ints, clamps), omega (arith, ints, clamps)); down = λ h. (omega (arith, ints, clamps), omega (arith, ints, clamps)) };
}

pub evap_kind : (r : ExactEvap) → IsRampKind r.conductance r.surface r.extinction (λ v. evap_flow v r) whole_evap (λ t f y. int_max (int_min y t -ℤ f) (pos 0))
evap_kind r = record {
  over = λ k m v y own w entry. evap_over k m v y own r w entry;
  loss = λ w x y. losses_differ (pos w.c) (int_max (int_min x w.top -ℤ w.foot) (pos 0)) (int_max (int_min y w.top -ℤ w.foot) (pos 0));
  way = λ t f x y. record { up = λ h. (omega (arith, ints, clamps), omega (arith, ints, clamps)); down = λ h. (omega (arith, ints, clamps), omega (arith, ints, clamps)) };
}

-- r of k parts of a conductance
abbrev pub part_of : Ratio → ℕ → ℕ → Ratio
part_of own k r = record { num = own.num * r; less = ratio_den own * k - 1 }

pub part_den : (own : Ratio) (k : ℕ) → 0 < k → suc (ratio_den own * k - 1) ≡ ratio_den own * k
part_den own k h = let p : 0 < ratio_den own * k = mul-pos (omega arith) h in omega arith

module _ (id d : ℕ) (X Y : ℤ) where
  -- both heads, the top and the foot as whole numbers over n
  module _ (n : ℕ) (some : 0 < n) (x y t f : ℤ) (over_x : IsOver n (share d X) x) (over_y : IsOver n (share d Y) y) (over_z : IsOver n (share d (X -ℤ Y)) (x -ℤ y)) where
    pub branch_over : (own : Ratio) (top foot : Fraction) (flow : Fraction → Fraction) (whole_flow : ℤ → WholeEntry → ℤ) (rise : ℤ → ℤ → ℤ → ℤ) → IsRampKind own top foot flow whole_flow rise →
        IsOver n top t → IsOver n foot f → (part : IsPart x y (rise t f x) (rise t f y)) →
        (b : ExactFixed) × (b.conductance ≡ part_of own part.k part.r) × IsRampBranch id (share d (X -ℤ Y)) own (flow (share d X)) (flow (share d Y)) b
    branch_over own top foot flow whole_flow rise is over_top over_foot part =
        let s = ratio_den own * part.k in
        let c : Ratio = part_of own part.k part.r in
        let den_is : ratio_den c ≡ s = part_den own part.k part.some in
        let w : WholeEntry = record { c = own.num * part.k; top = t; foot = f } in
        let entry : EntryOver s n own top foot w = record { c = record { is = regroup own.num (ratio_den own) part.k }; top = over_top; foot = over_foot } in
        let z = share d (X -ℤ Y) in
        let gives = flow (share d X) in
        let other = flow (share d Y) in
        let over_gives = is.over s n (share d X) x over_x w entry in
        let over_other = is.over s n (share d Y) y over_y w entry in
        let over_conductance = IsOver-signed s c c.num (record { is = ap (λ (k : ℕ). c.num * k) (sym den_is) }) in
        let over_drop = IsOver-minus n (whole (pos 0)) z (pos 0) (x -ℤ y) (IsOver-none n) over_z in
        let over_branch = IsOver-times s n (as_fraction c) (minus (whole (pos 0)) z) (pos c.num) (pos 0 -ℤ (x -ℤ y)) over_conductance over_drop in
        let some_both = mul-pos (mul-pos (omega arith) part.some) some in
        let b : ExactFixed = record { kind = General; source = id; conductance = c; head = whole (pos 0) } in (
          b,
          refl,
          record {
            kind = refl;
            source = refl;
            head = refl;
            at_most = record { cross = within own.num part.r part.k (ratio_den own) (ratio_den c) den_is part.at_most };
            same = same_over (s * n) (minus gives other) (fixed_flow z b) _ _ some_both (IsOver-minus (s * n) gives other _ _ over_gives over_other) over_branch
                (is.loss w x y ∙ shared (pos own.num) (pos part.k) (pos part.r) (rise t f x -ℤ rise t f y) (x -ℤ y) part.same);
          },
        )
      where
        regroup : (n s k : ℕ) → n * (s * k) ≡ n * k * s
        regroup n s k = omega arith

        within : (n r k s t : ℕ) → t ≡ s * k → r ≤ k → (n * r * s) ≤ (n * t)
        within n r k s t e h = rw e (omega (arith, mul-le-mul_left (n * s) h))

        shared : (n k r p z : ℤ) → k *ℤ p ≡ r *ℤ z → neg_ℤ ((n *ℤ k) *ℤ p) ≡ (n *ℤ r) *ℤ (pos 0 -ℤ z)
        shared n k r p z e = ap neg_ℤ (mul_assoc n k p ∙ ap (λ (a : ℤ). n *ℤ a) e ∙ sym (mul_assoc n r z)) ∙ turned (n *ℤ r) z
          where
            turned : (a z : ℤ) → neg_ℤ (a *ℤ z) ≡ a *ℤ (pos 0 -ℤ z)
            turned a z = let e : pos 0 -ℤ z ≡ neg_ℤ z = omega (arith, ints) in rw e (sym (mul_neg a z))

module _ (id d : ℕ) (some : 0 < d) (X Y : ℤ) where
  ramp_branch : (own : Ratio) (top foot : Fraction) (flow : Fraction → Fraction) (whole_flow : ℤ → WholeEntry → ℤ) (rise : ℤ → ℤ → ℤ → ℤ) → IsRampKind own top foot flow whole_flow rise →
      (b : ExactFixed) × IsRampBranch id (share d (X -ℤ Y)) own (flow (share d X)) (flow (share d Y)) b
  ramp_branch own top foot flow whole_flow rise is =
      let m = den top * den foot in
      let n = m * d in
      let (t, over_top) = fraction_over m d top (Goes-first (den top) (den foot)) in
      let (f, over_foot) = fraction_over m d foot (Goes-second (den top) (den foot)) in
      let x = X *ℤ pos m in
      let y = Y *ℤ pos m in
      let over_z : IsOver n (share d (X -ℤ Y)) (x -ℤ y) = subst (λ (k : ℤ). IsOver n (share d (X -ℤ Y)) k) (sub_mul X Y (pos m)) (heads_over m d some (X -ℤ Y)) in
      let some_n = mul-pos (mul-pos (omega arith) (omega arith)) some in
      let (b, e, branch) = branch_over id d X Y n some_n x y t f (heads_over m d some X) (heads_over m d some Y) over_z own top foot flow whole_flow rise is over_top over_foot
      (part_of_way x y (rise t f x) (rise t f y) (is.way t f x y)) in
      (b, branch)

  pub river_branch : (r : ExactRiver) → (b : ExactFixed) × IsRampBranch id (share d (X -ℤ Y)) r.conductance (river_flow (share d X) r) (river_flow (share d Y) r) b
  river_branch r = ramp_branch r.conductance r.stage r.bottom (λ v. river_flow v r) whole_river (λ t f y. int_max y f) (river_kind r)

  pub drain_branch : (r : ExactDrain) → (b : ExactFixed) × IsRampBranch id (share d (X -ℤ Y)) r.conductance (drain_flow (share d X) r) (drain_flow (share d Y) r) b
  drain_branch r = ramp_branch r.conductance r.elevation r.elevation (λ v. drain_flow v r) whole_drain (λ t f y. int_max (y -ℤ f) (pos 0)) (drain_kind r)

  pub evap_branch : (r : ExactEvap) → (b : ExactFixed) × IsRampBranch id (share d (X -ℤ Y)) r.conductance (evap_flow (share d X) r) (evap_flow (share d Y) r) b
  evap_branch r = ramp_branch r.conductance r.surface r.extinction (λ v. evap_flow v r) whole_evap (λ t f y. int_max (int_min y t -ℤ f) (pos 0)) (evap_kind r)
