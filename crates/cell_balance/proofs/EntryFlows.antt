-- What the manual says of single flows, from their whole numbers.
use Rattle.cell_balance.proofs.Common.{◌≡◌, ℕ, zero, suc, ◌*◌, ◌<◌, ◌≤◌, refl, sym, ap, ◌∙◌, subst, arith, ℤ, pos, negsuc, neg_ℤ, ◌-ℤ◌, ◌*ℤ◌, ◌≤ℤ◌, ◌<ℤ◌, mul-pos, int_max, int_min, mul-le-mul_right}
use Rattle.cell_balance.proofs.Common.{mul-le-mul, *ℤ-zero, ints, clamps, Ratio, Fraction, den, as_fraction, opposite, IsOver, IsShare, mul_nonneg, mul_neg, ExactFixed, ExactRiver, ExactDrain}
use Rattle.cell_balance.proofs.Common.{ExactEvap, minus, fixed_flow, river_flow, drain_flow, evap_flow, full_rate, over_difference, FixedLaws, RiverLaws, DrainLaws, EvapLaws, FlowsAreRight}
use Rattle.cell_balance.proofs.{Scaling.IsOver-times, Scaling.IsOver-minus, Scaling.IsOver-negated, Scaling.IsOver-signed, Scaling.over_zero, Enclosing.over_le, Enclosing.le_over, Enclosing.same_over}
use Rattle.cell_balance.proofs.{Enclosing.negative_over, Enclosing.negative_below, Enclosing.positive_above, Enclosing.below_over, Denominators.Goes-second, Denominators.fraction_over}
use Rattle.cell_balance.proofs.{Denominators.entry_den, Denominators.some_entry, Over.EntryOver, Over.FixedOver, Over.RiverOver, Over.DrainOver, Over.EvapOver, Over.fixed_over, Over.river_over}
use Rattle.cell_balance.proofs.{Over.drain_over, Over.evap_over, Over.full_over, Encloses.entry_over_denominator, Dry.evap_within_full, Zips.WholeEntry, Zips.whole_fixed, Zips.whole_river}
use Rattle.cell_balance.proofs.{Zips.whole_drain, Zips.whole_evap, Zips.whole_full}

-- what conducts has a positive share
some_share : (d c : ℕ) (r : Ratio) → 0 < d → 0 < r.num → IsShare d r c → 0 < c
some_share d zero r h k s = let p : 1 * 1 ≤ r.num * d = mul-le-mul k h in absurd (omega (arith, s.is, p))
some_share d (suc c) r h k s = omega arith

mul_negative : (c : ℕ) (a : ℤ) → 0 < c → a <ℤ pos 0 → (pos c *ℤ a) <ℤ pos 0
mul_negative c (pos n) h k = absurd (omega (arith, ints))
mul_negative c (negsuc n) h k = let p : 1 * suc n ≤ c * suc n = mul-le-mul_right (suc n) h in omega (arith, ints)

mul_positive : (c : ℕ) (a : ℤ) → 0 < c → pos 0 <ℤ a → pos 0 <ℤ (pos c *ℤ a)
mul_positive c (pos n) h k = let p : 1 * n ≤ c * n = mul-le-mul_right n h in omega (arith, ints)
mul_positive c (negsuc n) h k = absurd (omega (arith, ints))

-- C times a difference of heads, in whole numbers
pub difference_over : (k m c : ℕ) (r : Ratio) (f g : Fraction) (a b : ℤ) → IsShare k r c → IsOver m f a → IsOver m g b → IsOver (k * m) (over_difference (as_fraction r) f g) (pos c *ℤ (a -ℤ b))
difference_over k m c r f g a b s p q = IsOver-times k m (as_fraction r) (minus f g) (pos c) (a -ℤ b) (IsOver-signed k r c s) (IsOver-minus m f g a b p q)

module _ (k m : ℕ) (some_k : 0 < k) (some_m : 0 < m) (v : Fraction) (y : ℤ) (own : IsOver m v y) where
  some : 0 < k * m
  some = mul-pos some_k some_m

  fixed_laws : (x : ExactFixed) (w : WholeEntry) → FixedOver k m x w → FixedLaws v x
  fixed_laws x w r = record {
    gives = λ c h. positive_above (k * m) (fixed_flow v x) (whole_fixed y w) some (fixed_over k m v y own x w r)
        (mul_positive w.c (w.top -ℤ y) (some_share k w.c x.conductance some_k c r.c)
        (let b = below_over m v x.head y w.top some_m own r.top h in omega (arith, ints, b)));
    takes = λ c h. negative_below (k * m) (fixed_flow v x) (whole_fixed y w) some (fixed_over k m v y own x w r)
        (mul_negative w.c (w.top -ℤ y) (some_share k w.c x.conductance some_k c r.c)
        (let b = below_over m x.head v w.top y some_m r.top own h in omega (arith, ints, b)));
  }

  river_laws : (x : ExactRiver) (w : WholeEntry) → RiverOver k m x w → RiverLaws v x
  river_laws x w r = record {
    takes = λ c h. negative_below (k * m) (river_flow v x) (whole_river y w) some (river_over k m v y own x w r)
        (mul_negative w.c (w.top -ℤ int_max y w.foot) (some_share k w.c x.conductance some_k c r.c)
        (let b = below_over m x.stage v w.top y some_m r.top own h in omega (arith, ints, clamps, b)));
    above = λ h. same_over (k * m) _ _ _ _ some (river_over k m v y own x w r) (difference_over k m w.c x.conductance x.stage v w.top y r.c r.top own)
        (ap (λ (z : ℤ). pos w.c *ℤ (w.top -ℤ z)) (left (over_le m x.bottom v w.foot y r.foot own h)));
    below = λ h. same_over (k * m) _ _ _ _ some (river_over k m v y own x w r)
        (difference_over k m w.c x.conductance x.stage x.bottom w.top w.foot r.c r.top r.foot)
        (ap (λ (z : ℤ). pos w.c *ℤ (w.top -ℤ z)) (right (over_le m v x.bottom y w.foot own r.foot h)));
  }
    where
      left : w.foot ≤ℤ y → int_max y w.foot ≡ y
      left h = omega (arith, ints, clamps)

      right : y ≤ℤ w.foot → int_max y w.foot ≡ w.foot
      right h = omega (arith, ints, clamps)

  drain_laws : (x : ExactDrain) (w : WholeEntry) → DrainOver k m x w → DrainLaws v x
  drain_laws x w r = record {
    never_gives = negative_over (k * m) (drain_flow v x) (whole_drain y w) some (drain_over k m v y own x w r)
        (out (mul_nonneg (pos w.c) (int_max (y -ℤ w.foot) (pos 0)) (omega (arith, ints)) (omega (arith, ints, clamps))));
    below = λ h. over_zero (k * m) (drain_flow v x) some (subst (λ (z : ℤ). IsOver (k * m) (drain_flow v x) z) (none (over_le m v x.elevation y w.foot own r.foot h)) (drain_over k m v y own x w r));
    above = λ h. same_over (k * m) _ _ _ _ some (drain_over k m v y own x w r) (difference_over k m w.c x.conductance x.elevation v w.foot y r.c r.foot own)
        (wet (over_le m x.elevation v w.foot y r.foot own h));
  }
    where
      out : pos 0 ≤ℤ (pos w.c *ℤ int_max (y -ℤ w.foot) (pos 0)) → whole_drain y w ≤ℤ pos 0
      out h = omega (arith, ints, h)

      none : y ≤ℤ w.foot → whole_drain y w ≡ pos 0
      none h = let e : int_max (y -ℤ w.foot) (pos 0) ≡ pos 0 = omega (arith, ints, clamps) in rw (e, *ℤ-zero) refl

      wet : w.foot ≤ℤ y → whole_drain y w ≡ pos w.c *ℤ (w.foot -ℤ y)
      wet h = let e : neg_ℤ (int_max (y -ℤ w.foot) (pos 0)) ≡ w.foot -ℤ y = omega (arith, ints, clamps) in sym (mul_neg (pos w.c) (int_max (y -ℤ w.foot) (pos 0))) ∙ ap (λ (z : ℤ). pos w.c *ℤ z) e

  all_out : (x : ExactEvap) (w : WholeEntry) → EvapOver k m x w → IsOver (k * m) (opposite (full_rate x)) (neg_ℤ (whole_full w))
  all_out x w r = IsOver-negated (k * m) (full_rate x) (whole_full w) (full_over k m x w r)

  evap_laws : (x : ExactEvap) (w : WholeEntry) → EvapOver k m x w → EvapLaws v x
  evap_laws x w r = record {
    never_gives = negative_over (k * m) (evap_flow v x) (whole_evap y w) some flow
        (out (mul_nonneg (pos w.c) (int_max (int_min y w.top -ℤ w.foot) (pos 0)) (omega (arith, ints)) (omega (arith, ints, clamps))));
    at_most_full = le_over (k * m) (opposite (full_rate x)) (evap_flow v x) (neg_ℤ (whole_full w)) (whole_evap y w) some (all_out x w r) flow (evap_within_full y w);
    below = λ h. over_zero (k * m) (evap_flow v x) some (subst (λ (z : ℤ). IsOver (k * m) (evap_flow v x) z) (none (over_le m v x.extinction y w.foot own r.foot h)) flow);
    between = λ h i. same_over (k * m) _ _ _ _ some flow (difference_over k m w.c x.conductance x.extinction v w.foot y r.c r.foot own)
        (middle (over_le m x.extinction v w.foot y r.foot own h) (over_le m v x.surface y w.top own r.top i));
    above = λ h. same_over (k * m) _ _ _ _ some flow (all_out x w r) (top (over_le m x.surface v w.top y r.top own h));
  }
    where
      flow : IsOver (k * m) (evap_flow v x) (whole_evap y w)
      flow = evap_over k m v y own x w r

      out : pos 0 ≤ℤ (pos w.c *ℤ int_max (int_min y w.top -ℤ w.foot) (pos 0)) → whole_evap y w ≤ℤ pos 0
      out h = omega (arith, ints, h)

      none : y ≤ℤ w.foot → whole_evap y w ≡ pos 0
      none h = let e : int_max (int_min y w.top -ℤ w.foot) (pos 0) ≡ pos 0 = omega (arith, ints, clamps) in rw (e, *ℤ-zero) refl

      middle : w.foot ≤ℤ y → y ≤ℤ w.top → whole_evap y w ≡ pos w.c *ℤ (w.foot -ℤ y)
      middle h i = let e : neg_ℤ (int_max (int_min y w.top -ℤ w.foot) (pos 0)) ≡ w.foot -ℤ y = omega (arith, ints, clamps) in sym
          (mul_neg (pos w.c) (int_max (int_min y w.top -ℤ w.foot) (pos 0))) ∙ ap (λ (z : ℤ). pos w.c *ℤ z) e

      top : w.top ≤ℤ y → whole_evap y w ≡ neg_ℤ (whole_full w)
      top h = let e : int_min y w.top ≡ w.top = omega (arith, ints, clamps) in ap (λ (z : ℤ). neg_ℤ (pos w.c *ℤ int_max (z -ℤ w.foot) (pos 0))) e

-- an entry and a head have whole numbers over one denominator
module _ (v : Fraction) (r : Ratio) (top foot : Fraction) where
  by_wholes : {L : Type 0} → ((k m : ℕ) → 0 < k → 0 < m → (y : ℤ) → IsOver m v y → (w : WholeEntry) → EntryOver k m r top foot w → L) → L
  by_wholes law =
      let d = den v * entry_den r top foot in
      let some : 0 < d = mul-pos (omega arith) (some_entry r top foot) in
      let (w, over) = entry_over_denominator d 1 1 r top foot (Goes-second (den v) (entry_den r top foot)) in
      let (y, own) = fraction_over d 1 v (entry_den r top foot, refl) in
      law (d * 1) (d * 1) (omega (arith, some)) (omega (arith, some)) y own w over

pub flows_are_right : FlowsAreRight
flows_are_right = record {
  fixed = λ v x. by_wholes v x.conductance x.head x.head (λ k m hk hm y own. fixed_laws k m hk hm v y own x);
  rivers = λ v x. by_wholes v x.conductance x.stage x.bottom (λ k m hk hm y own. river_laws k m hk hm v y own x);
  drains = λ v x. by_wholes v x.conductance x.elevation x.elevation (λ k m hk hm y own. drain_laws k m hk hm v y own x);
  evaps = λ v x. by_wholes v x.conductance x.surface x.extinction (λ k m hk hm y own. evap_laws k m hk hm v y own x);
}
