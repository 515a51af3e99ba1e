-- The test of a head tells its range.
use Rattle.number_limits.proofs.Common.{◌≡◌, ◌*◌, ◌≤◌, pos, neg_ℤ, Bool, true, false, arith, leb-true, le-leb, ints, Dec, IsDec, size, Ratio, with_sign, EnclosesSigned, den, IsHeadNumber, is_at_most}
use Rattle.number_limits.proofs.Common.{is_head}

enclosed : (neg : Bool) (f : Ratio) → f.num ≤ 4000000000 * den f → EnclosesSigned (neg_ℤ (pos 4000000000)) (pos 4000000000) 0 (record { num = with_sign neg f.num; less = f.less })
enclosed false f le = record { lower = omega (arith, ints, le); upper = omega (arith, ints, le) }
enclosed true f le = record { lower = omega (arith, ints, le); upper = omega (arith, ints, le) }

within : (neg : Bool) (f : Ratio) → EnclosesSigned (neg_ℤ (pos 4000000000)) (pos 4000000000) 0 (record { num = with_sign neg f.num; less = f.less }) → f.num ≤ 4000000000 * den f
within false f h = omega (arith, ints, h.lower, h.upper)
within true f h = omega (arith, ints, h.lower, h.upper)

pub head_of : (d : Dec) → IsDec d → is_head d ≡ true → IsHeadNumber d
unfolding is_at_most
head_of d dec h = record { decimal = dec; range = enclosed d.neg (size d) (leb-true (size d).num (4000000000 * den (size d)) h) }

pub head_is : (d : Dec) → IsHeadNumber d → is_head d ≡ true
unfolding is_at_most
head_is d h = le-leb (size d).num (4000000000 * den (size d)) (within d.neg (size d) h.range)
