-- The bounds of a head between two heads in range are in range.
use Rattle.problem_builder.proofs.Common.{◌≡◌, ℕ, ◌+◌, ◌*◌, ◌-◌, ◌≤◌, ◌^◌, arith, ℤ, pos, neg_ℤ, ◌*ℤ◌, ◌≤ℤ◌, int_min, int_max, ints, int_min_is, int_max_is, Dec, mul_mono_right, IsHead, head_limit}
use Rattle.problem_builder.proofs.Common.{IsHeadNumber, blend, given_pair, head_pair, bound_of_pair}
use Rattle.conductance_bounds.proofs.Units.{IsFloorOf, IsCeilingOf, floor_is, ceiling_is}
use Rattle.conductance_bounds.specs.declared.part.Part.{Part}
use Rattle.problem_builder.proofs.HeadRange.{AreHeads, head_range_of}

-- z lies from -b to b, for the limit of heads in units of 10 ^ -18 of theirs
pub record IsBlend (z : ℤ) : Type 0 where
  pub above : (neg_ℤ (pos head_limit) *ℤ pos (10 ^ 18)) ≤ℤ z
  pub below : z ≤ℤ (pos head_limit *ℤ pos (10 ^ 18))

-- L u + L f is L times all of it
sums : (u f : ℕ) → u + f ≡ 10 ^ 18 → 4000000000000000000 * u + 4000000000000000000 * f ≡ 4000000000000000000 * 10 ^ 18
sums u f e = omega (arith, e)

blended : (a e : ℤ) (f : ℕ) → IsHead a → IsHead e → f ≤ 10 ^ 18 → IsBlend (blend a e f)
blended a e f p q le =
    let u = 10 ^ 18 - f in
    let whole : u + f ≡ 10 ^ 18 = omega (arith, le) in
    let x = mul_mono_right u (neg_ℤ (pos head_limit)) a p.above in
    let y = mul_mono_right u a (pos head_limit) p.below in
    let z = mul_mono_right f (neg_ℤ (pos head_limit)) e q.above in
    let w = mul_mono_right f e (pos head_limit) q.below in
    record {
      above = omega (arith, ints, x, z, sums u f whole);
      below = omega (arith, ints, y, w, sums u f whole);
    }

floor_within : (x y z : ℤ) → IsBlend x → IsBlend y → IsFloorOf (int_min x y) z → IsHead z
floor_within x y z p q k = grind (arith, int_min_is)

ceiling_within : (x y z : ℤ) → IsBlend x → IsBlend y → IsCeilingOf (int_max x y) z → IsHead z
ceiling_within x y z p q k = grind (arith, int_max_is)

pub given_range : (shead ehead : Dec) (p : Part) → IsHeadNumber shead → IsHeadNumber ehead → p.lo ≤ 10 ^ 18 → p.hi ≤ 10 ^ 18 → AreHeads (bound_of_pair (given_pair shead ehead p))
unfolding given_pair head_pair
given_range shead ehead p s e fl gl =
    let (a, b) = head_range_of shead s in
    let (c, d) = head_range_of ehead e in
    (floor_within _ _ _ (blended _ _ p.lo a c fl) (blended _ _ p.hi a c gl) (floor_is _), ceiling_within _ _ _ (blended _ _ p.lo b d fl) (blended _ _ p.hi b d gl) (ceiling_is _))
