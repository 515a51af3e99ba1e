-- The flows of ramps: they leave the cell, fall as its head rises, and where they are the same at two heads they are within the full rates.
use Rattle.cell_balance.proofs.Common.{[], ◌*ℤ◌, ◌<ℤ◌, ◌∷◌, ◌≡◌, ◌≤ℤ◌, Bool, List, arith, cond, false, nat_eq, neg_ℤ, pos, suc, true, zero, ℕ, ℤ, *ℤ-zero, loss_falls, mul_add, clamps, ints, total}
use Rattle.cell_balance.proofs.Common.{as_diff, diffs, mul_mono, same_diff, None, Option, Some}
use Rattle.cell_balance.proofs.Scaling.{cancel_le}
use Rattle.cell_balance.proofs.Ramps.{Ramp, rise, extent, ramp_flow, full_rate, rise_grows, rise_within_extent, extent_nonneg, rise_nonneg}

-- what holds of two numbers and of zeros holds of either
either : (P : ℤ → ℤ → Type 0) (s : Bool) (x y : ℤ) → P x y → P (pos 0) (pos 0) → P (cond s x (pos 0)) (cond s y (pos 0))
either P true x y h k = h
either P false x y h k = k

-- a ramp gives a higher head no more
pub flow_falls : (d : ℕ) (x y : ℤ) (i : ℕ) (r : Ramp) → x ≤ℤ y → ramp_flow d y i r ≤ℤ ramp_flow d x i r
flow_falls d x y i r h = either (λ a b. a ≤ℤ b) (nat_eq r.cell i) _ _ (loss_falls r.c _ _ (rise_grows r.foot r.top d x y h)) (omega (arith, ints))

pub flows_fall : (d : ℕ) (x y : ℤ) (i : ℕ) (rs : List Ramp) → x ≤ℤ y → total (ramp_flow d y i) rs ≤ℤ total (ramp_flow d x i) rs
flows_fall d x y i [] h = omega (arith, ints)
flows_fall d x y i (r ∷ rs) h = omega (arith, ints, flow_falls d x y i r h, flows_fall d x y i rs h)

-- a ramp that carries no more at the higher of two heads carries at most its full rate
carries_within_full : (c : ℕ) (t : ℤ) (top : Option ℤ) (d : ℕ) (x y : ℤ) → x <ℤ y → neg_ℤ (pos c *ℤ rise t top d x) ≤ℤ neg_ℤ (pos c *ℤ rise t top d y) →
    neg_ℤ (pos d *ℤ (pos c *ℤ extent t top)) ≤ℤ neg_ℤ (pos c *ℤ rise t top d y)
carries_within_full zero t None d x y h k = grind (arith, rise)
carries_within_full (suc c) t None d x y h k =
    let low = cancel_le (suc c) (rise t None d y) (rise t None d x) (omega arith) (omega (arith, ints)) in
    step (pos d) (pos (suc c)) (rise t None d y) (omega (arith, ints, clamps))
  where
    step : (d c r : ℤ) → r ≡ pos 0 → neg_ℤ (d *ℤ (c *ℤ pos 0)) ≤ℤ neg_ℤ (c *ℤ r)
    step d c r e = rw (e, *ℤ-zero c, *ℤ-zero d) (omega (arith, ints))
carries_within_full c t (Some u) d x y h k = step (pos d) (pos c) (extent t (Some u)) _ (mul_mono c _ _ (rise_within_extent t u d y))
  where
    step : (d c e r : ℤ) → (c *ℤ r) ≤ℤ (c *ℤ (e *ℤ d)) → neg_ℤ (d *ℤ (c *ℤ e)) ≤ℤ neg_ℤ (c *ℤ r)
    step d c e r h = omega (arith, ints, ring d c e)
      where
        ring : (d c e : ℤ) → c *ℤ (e *ℤ d) ≡ d *ℤ (c *ℤ e)
        ring d c e = rw (as_diff d, as_diff c, as_diff e) (simp diffs (same_diff _ _ _ _ (omega arith)))

flow_within_full : (d : ℕ) (x y : ℤ) (i : ℕ) (r : Ramp) → x <ℤ y → ramp_flow d x i r ≤ℤ ramp_flow d y i r → neg_ℤ (pos d *ℤ full_rate i r) ≤ℤ ramp_flow d y i r
flow_within_full d x y i r h k = grind (arith, nat_eq, rise, extent, carries_within_full)

-- ramps that carry no more at the higher of two heads carry at most their full rates
pub flows_within_full : (d : ℕ) (x y : ℤ) (i : ℕ) (rs : List Ramp) → x <ℤ y → total (ramp_flow d x i) rs ≤ℤ total (ramp_flow d y i) rs →
    neg_ℤ (pos d *ℤ total (full_rate i) rs) ≤ℤ total (ramp_flow d y i) rs
flows_within_full d x y i [] h k = omega (arith, ints)
flows_within_full d x y i (r ∷ rs) h k =
    let first = flow_falls d x y i r (omega (arith, ints)) in
    let others = flows_fall d x y i rs (omega (arith, ints)) in
    omega (
      arith,
      ints,
      mul_add (pos d) (full_rate i r) (total (full_rate i) rs),
      flow_within_full d x y i r h (omega (arith, ints)),
      flows_within_full d x y i rs h (omega (arith, ints)),
    )

times_nonneg : (c : ℕ) (z : ℤ) → pos 0 ≤ℤ z → pos 0 ≤ℤ (pos c *ℤ z)
times_nonneg c z h = rw *ℤ-zero at (mul_mono c (pos 0) z h)

pub full_rate_nonneg : (i : ℕ) (r : Ramp) → pos 0 ≤ℤ full_rate i r
full_rate_nonneg i r = either (λ a b. pos 0 ≤ℤ a) (nat_eq r.cell i) _ (pos 0) (times_nonneg r.c _ (extent_nonneg r.foot r.top)) (omega (arith, ints))

pub flow_leaves : (d : ℕ) (x : ℤ) (i : ℕ) (r : Ramp) → ramp_flow d x i r ≤ℤ pos 0
flow_leaves d x i r = either (λ a b. a ≤ℤ pos 0) (nat_eq r.cell i) _ (pos 0) (rw *ℤ-zero at (loss_falls r.c (pos 0) _ (rise_nonneg r.foot r.top d x))) (omega (arith, ints))
