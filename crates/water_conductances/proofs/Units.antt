-- Units of the elevations of an active cell, where a single call finds them too large.
use Rattle.water_conductances.proofs.Common.{◌≡◌, ℕ, ◌^◌, ◌<◌, ◌≤◌, arith, ℤ, pos, negsuc, neg_ℤ, ◌≤ℤ◌, ◌<ℤ◌, List, clamps, ints, unsigned_abs, bottom_small, lower_end, top_small, upper_end}
use Rattle.water_conductances.proofs.Common.{units_ceiling, units_floor, floor_ceiling_enclose, cancel_right, mul_mono_right, Dec, IsSignedCeiling, IsSignedFloor, number, den, FlowModel, IsThick}
use Rattle.water_conductances.proofs.Common.{bottom_at, top_at, Lower, Upper, Bound, lower_at, upper_at, least_units, most_units}
unfoldable use Rattle.conductance_bounds.specs.{units_at}

module _ (top bottom : Dec) (k : IsThick top bottom) where
  pub top_floor : (z : ℤ) → IsSignedFloor z (number top) 18 → 2 ^ 126 ≤ unsigned_abs z → z ≡ neg_ℤ (pos (2 ^ 126))
  top_floor z h large = absurd (omega (arith, large, top_small top bottom k z h))

  pub top_ceiling : (z : ℤ) → IsSignedCeiling z (number top) 18 → 2 ^ 126 ≤ unsigned_abs z → z ≡ pos (2 ^ 126)
  top_ceiling z h = upper_end (number top) k.floor z k.is_floor h k.small.0

  pub bottom_floor : (z : ℤ) → IsSignedFloor z (number bottom) 18 → 2 ^ 126 ≤ unsigned_abs z → z ≡ neg_ℤ (pos (2 ^ 126))
  bottom_floor z h = lower_end (number bottom) z k.ceiling h k.is_ceiling k.small.1

  pub bottom_ceiling : (z : ℤ) → IsSignedCeiling z (number bottom) 18 → 2 ^ 126 ≤ unsigned_abs z → z ≡ pos (2 ^ 126)
  bottom_ceiling z h large = absurd (omega (arith, large, bottom_small top bottom k z h))

-- a floor is at most the ceiling
pub in_order : (x : Dec) → units_at Lower x 18 ≤ℤ units_at Upper x 18
in_order x =
    let e = floor_ceiling_enclose (number x) 18 _ _ (units_floor x 18) (units_ceiling x 18) in
    cancel_right (den (number x)) _ _ (omega arith) (omega (arith, ints, e.lower, e.upper))

pub units_in_order : (m : FlowModel) (heads : List Bound) (c : ℕ) → lower_at heads c ≤ℤ upper_at heads c → least_units m heads c ≤ℤ most_units m heads c
units_in_order m heads c le = omega (arith, ints, clamps, in_order (top_at m c), in_order (bottom_at m c), mul_mono_right (10 ^ 9) (lower_at heads c) (upper_at heads c) le)

-- magnitudes of numbers above 0
pub units_grow : (z w : ℤ) → pos 0 <ℤ z → z ≤ℤ w → unsigned_abs z ≤ unsigned_abs w
units_grow (pos n) (pos k) p q = omega (arith, ints, q)
units_grow (pos n) (negsuc k) p q = absurd (omega (arith, ints, q))
units_grow (negsuc n) w p q = absurd (omega (arith, ints, p))
