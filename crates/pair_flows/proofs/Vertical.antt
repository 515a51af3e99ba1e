-- Vertical branches.
use Rattle.pair_flows.proofs.Common.{ℕ, ◌≡◌, ◌≤◌, ◌+◌, ◌*◌, ◌-◌, ◌⊎◌, arith, inl, inr, cases_lt, DownwardLaw, UpwardLaw, saturated_thickness}

-- the drop d is at most the saturated thickness z, which rises by w where the upper head rises by t; the lower head falls by s
pub falls_faster : (r k z z' d d' w t s : ℕ) → z' ≡ z + w → d' ≡ d + t + s → w ≤ t → (d ≤ z) ⊎ (w ≡ 0) → (d * (r * z' + k)) ≤ (d' * (r * z + k))
falls_faster r k z z' d d' w t s thicker drop part low = rw (thicker, drop) (elim low [
  | inl gentle ↦
      let wet : z ≡ d + (z - d) = omega arith in
      let rise : t ≡ w + (t - w) = omega arith in
      rw (rise, wet) (products r (z - d) k d (t - w) w s)
  | inr full ↦ rw full (same r z k d t s)
])
  where
    products : (r m k d v w s : ℕ) → (d * (r * (d + m + w) + k)) ≤ ((d + (w + v) + s) * (r * (d + m) + k))
    products r m k d v w s = omega arith

    same : (r z k d t s : ℕ) → (d * (r * (z + 0) + k)) ≤ ((d + t + s) * (r * z + k))
    same r z k d t s = omega arith

pub downward_law : DownwardLaw
downward_law v a a' b b' above_bottom falls below rises =
    let w = saturated_thickness v.upper a' - saturated_thickness v.upper a in
    let thicker : saturated_thickness v.upper a' ≡ saturated_thickness v.upper a + w = omega arith in
    let gentle_or_full : ((a - b) ≤ saturated_thickness v.upper a) ⊎ (w ≡ 0) = elim (cases_lt v.upper.top a) [ inl full ↦ inr (omega arith) | inr partly ↦ inl (omega arith) ] in
    falls_faster v.upper.per_unit v.rest (saturated_thickness v.upper a) (saturated_thickness v.upper a') (a - b) (a' - b') w (a' - a) (b - b') thicker
    (omega arith) (omega arith) gentle_or_full

pub rises_faster : (r k z z' e e' w t : ℕ) → z ≡ z' + w → e' ≡ e + t → (e * (r * z' + k)) ≤ (e' * (r * z + k))
rises_faster r k z z' e e' w t thicker drop = rw (thicker, drop) (products r z' w k e t)
  where
    products : (r z w k e t : ℕ) → (e * (r * z + k)) ≤ ((e + t) * (r * (z + w) + k))
    products r z w k e t = omega arith

pub upward_law : UpwardLaw
upward_law v a a' b b' falls below rises =
    let w = saturated_thickness v.upper a - saturated_thickness v.upper a' in
    let thicker : saturated_thickness v.upper a ≡ saturated_thickness v.upper a' + w = omega arith in
    rises_faster v.upper.per_unit v.rest (saturated_thickness v.upper a) (saturated_thickness v.upper a') (b - a) (b' - a') w (a - a' + (b' - b)) thicker (omega arith)
