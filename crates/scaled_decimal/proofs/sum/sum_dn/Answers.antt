use Rattle.scaled_decimal.proofs.Common.{arith, ints}
use Rattle.scaled_decimal.proofs.{Nearest.nearest_down, Between.below_ten, Between.power_pos, Products.exact_from, Products.far_from, Products.aligned_at, Sizes.size_has_18_digits, Sizes.sum_below}
use Rattle.scaled_decimal.proofs.sum.sum_dn.Goals as goal

pub round_dn-requires-clause-most : goal.round_dn-requires-clause-most
round_dn-requires-clause-most c =
    let a = size_has_18_digits c.args.a c.requires.operands.a_decimal c.requires.a_positive in
    let b = size_has_18_digits c.args.b c.requires.operands.b_decimal c.requires.b_positive in
    let positive = power_pos c.power_of_ten-power.result.unit c.unsigned_abs-gap.result c.power_of_ten-power.ensures.power in
    omega (arith, positive, sum_below c.args.a.m c.args.b.m c.power_of_ten-power.result.unit a.1 b.1 positive)

pub returns-then-gap-ge18-clause-nearest : goal.returns-then-gap-ge18-clause-nearest
returns-then-gap-ge18-clause-nearest c =
    let a = size_has_18_digits c.args.a c.requires.operands.a_decimal c.requires.a_positive in
    let b = size_has_18_digits c.args.b c.requires.operands.b_decimal c.requires.b_positive in
    let gap = c.unsigned_abs-gap.result in
    nearest_down c.args.a _ a.0 a.1 (far_from c.args.a.m c.args.b.m gap c.args.a.e c.args.b.e (omega (arith, ints)) (below_ten c.args.b.m gap b.1 (omega arith)))

pub returns-else-gap-ge18-clause-nearest : goal.returns-else-gap-ge18-clause-nearest
returns-else-gap-ge18-clause-nearest c =
    let power = c.power_of_ten-power.ensures.power in
    c.round_dn.ensures.nearest _ (exact_from _ _ _
    (aligned_at c.args.a.m c.args.b.m c.unsigned_abs-gap.result c.power_of_ten-power.result.unit c.args.a.e c.args.b.e _ power (omega (arith, ints))
    (omega (arith, ints))))
