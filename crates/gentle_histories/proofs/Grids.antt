-- Heads on a grid of 1 / d, and how little a balance falls where it is fine.
use Rattle.gentle_histories.proofs.Common.{share_is_over, ℕ, suc, ◌*◌, ◌<◌, ◌≤◌, ℤ, pos, neg_ℤ, ◌+ℤ◌, ◌*ℤ◌, ◌≤ℤ◌, ◌<ℤ◌, arith, mul-pos, mul-le-mul_left, ints, ◌^◌, Fraction, IsOver, Ratio}
use Rattle.gentle_histories.proofs.Common.{as_fraction, opposite, AtMost, AtMost-trans, add_times, cancel_right, mul_mono_right, neg_times, IsBelow, share, le_over, over_multiple, own_over}
use Rattle.gentle_histories.proofs.Common.{ratio_over}
use Rattle.decimal_input.specs.{Fractions.den, Ratios.den as ratio_den}
use Rattle.gentle_histories.proofs.Near.{IsNear, near_of, near_to}

pub share_rises : (d : ℕ) (x y : ℤ) → 0 < d → x ≤ℤ y → AtMost (share d x) (share d y)
share_rises d x y some le = le_over d _ _ _ _ some (share_is_over d x some) (share_is_over d y some) le

pub share_near : (d : ℕ) (x y : ℤ) → 0 < d → y ≤ℤ (x +ℤ pos 1) → IsNear d 1 (share d y) (share d x)
share_near d x y some le = near_of d some 1 d _ _ _ _ some (share_is_over d y some) (share_is_over d x some) (step d x y le)
  where
    step : (d : ℕ) (x y : ℤ) → y ≤ℤ (x +ℤ pos 1) → (y *ℤ pos d) ≤ℤ (x *ℤ pos d +ℤ pos 1 *ℤ pos d)
    step d x y le = omega (arith, ints, mul_mono_right d y (x +ℤ pos 1) le, add_times x (pos 1) (pos d))

-- 10^-9 units on a grid of 10^9 e
pub finer : (e : ℕ) (z : ℤ) → IsOver (10 ^ 9 * e) (share (10 ^ 9) z) (z *ℤ pos e)
finer e z = over_multiple (10 ^ 9) e (share (10 ^ 9) z) z (share_is_over (10 ^ 9) z (omega arith))

-- what is at least the unit less k / d is above minus the unit, where d is at least k units
pub still_above : (unit : Ratio) (d k : ℕ) (f g : Fraction) → 0 < unit.num → 0 < d → k * ratio_den unit ≤ d → AtMost (as_fraction unit) f → IsNear d k f g → IsBelow (opposite (as_fraction unit)) g
still_above unit d k f g units some fine gains near =
    let M = ratio_den unit * den g in
    let least : IsNear d k (as_fraction unit) g = record { near = AtMost-trans gains near.near } in
    let le = near_to d some k M (as_fraction unit) g (pos unit.num *ℤ pos (den g)) (g.num *ℤ pos (ratio_den unit))
    (over_multiple (ratio_den unit) (den g) (as_fraction unit) (pos unit.num) (ratio_over unit)) (own_over (ratio_den unit) g) least in
    record { below = above unit.num unit.less g.less k g.num units (cancel_right d (pos 0) (g.num *ℤ pos (ratio_den unit)) some (nonnegative unit.num unit.less g.less k g.num units fine le)) }
  where
    nonnegative : (U v l k : ℕ) (z : ℤ) → 0 < U → k * suc v ≤ d → ((pos U *ℤ pos (suc l)) *ℤ pos d) ≤ℤ ((z *ℤ pos (suc v)) *ℤ pos d +ℤ pos k *ℤ pos (suc v * suc l)) →
        (pos 0 *ℤ pos d) ≤ℤ ((z *ℤ pos (suc v)) *ℤ pos d)
    nonnegative U v l k z units fine le = omega (arith, ints, le, mul-le-mul_left (suc l) fine, mul-le-mul_left (suc l * d) (let e : 1 ≤ U = omega (arith, units) in e))

    above : (U v l k : ℕ) (z : ℤ) → 0 < U → pos 0 ≤ℤ (z *ℤ pos (suc v)) → (neg_ℤ (pos U) *ℤ pos (suc l)) <ℤ (z *ℤ pos (suc v))
    above U v l k z units le = omega (arith, ints, le, neg_times (pos U) (pos (suc l)), mul-pos units (let e : 0 < suc l = omega arith in e))
