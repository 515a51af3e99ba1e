use Rattle.scaled_decimal.proofs.Common.{◌+◌, ◌-◌, ◌*◌, arith, ints}
use Rattle.scaled_decimal.proofs.{Between.below_ten, Between.power_pos, Products.exact_up_to, Products.far_up_to, Products.aligned_at, Sizes.size_has_18_digits, Sizes.sum_below, Sizes.sum_digits}
use Rattle.scaled_decimal.proofs.sum.sum_up.Goals as goal

pub round_up-requires-else-gap-ge19-clause-digits : goal.round_up-requires-else-gap-ge19-clause-digits
round_up-requires-else-gap-ge19-clause-digits c =
    let a = size_has_18_digits c.args.a c.requires.operands.a_decimal c.requires.a_positive in
    let positive = power_pos c.power_of_ten-power.result.unit c.unsigned_abs-gap.result c.power_of_ten-power.ensures.power in
    sum_digits c.args.a.m c.args.b.m c.power_of_ten-power.result.unit a.0 c.requires.b_positive positive

pub round_up-requires-else-gap-ge19-clause-most : goal.round_up-requires-else-gap-ge19-clause-most
round_up-requires-else-gap-ge19-clause-most c =
    let a = size_has_18_digits c.args.a c.requires.operands.a_decimal c.requires.a_positive in
    let b = size_has_18_digits c.args.b c.requires.operands.b_decimal c.requires.b_positive in
    let positive = power_pos c.power_of_ten-power.result.unit c.unsigned_abs-gap.result c.power_of_ten-power.ensures.power in
    omega (arith, positive, sum_below c.args.a.m c.args.b.m c.power_of_ten-power.result.unit a.1 b.1 positive)

pub returns-then-gap-ge19-clause-nearest : goal.returns-then-gap-ge19-clause-nearest
returns-then-gap-ge19-clause-nearest c =
    let b = size_has_18_digits c.args.b c.requires.operands.b_decimal c.requires.b_positive in
    let gap = c.unsigned_abs-gap.result in
    c.round_up.ensures.nearest _ (far_up_to c.args.a.m c.args.b.m (gap - 1) c.args.a.e c.args.b.e _ (omega (arith, ints)) (omega (arith, ints))
    (below_ten c.args.b.m (gap - 1) b.1 (omega arith)) c.requires.b_positive)

pub returns-else-gap-ge19-clause-nearest : goal.returns-else-gap-ge19-clause-nearest
returns-else-gap-ge19-clause-nearest c =
    let power = c.power_of_ten-power.ensures.power in
    let sum = c.args.a.m * c.power_of_ten-power.result.unit + c.args.b.m in
    c.round_up-else-gap-ge19.ensures.nearest _
    (exact_up_to _ _ sum _ (omega arith) (aligned_at c.args.a.m c.args.b.m c.unsigned_abs-gap.result c.power_of_ten-power.result.unit c.args.a.e c.args.b.e
    _ power (omega (arith, ints)) (omega (arith, ints))))
