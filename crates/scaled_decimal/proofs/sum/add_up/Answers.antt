use Rattle.scaled_decimal.proofs.Common.{arith, subst, ints, clamps, IsUp, plus-comm}
use Rattle.scaled_decimal.proofs.{Nearest.up_self, Sizes.HasSize-wider, Sizes.HasSize-within, Products.left_nothing, Products.right_nothing, Products.more_plus, Products.more_plus_left}
use Rattle.scaled_decimal.proofs.sum.add_up.Goals as goal

pub returns-then-a-eq0-clause-nearest : goal.returns-then-a-eq0-clause-nearest
returns-then-a-eq0-clause-nearest c = up_self c.args.b _ c.requires.operands.b_decimal (more_plus_left _ _) (left_nothing c.args.a.m c.args.b.m c.args.a.e c.args.b.e (omega arith))

pub returns-then-b-eq0-clause-nearest : goal.returns-then-b-eq0-clause-nearest
returns-then-b-eq0-clause-nearest c = up_self c.args.a _ c.requires.operands.a_decimal (more_plus _ _) (right_nothing c.args.a.m c.args.b.m c.args.a.e c.args.b.e (omega arith))

pub returns-then-a-b-clause-size : goal.returns-then-a-b-clause-size
returns-then-a-b-clause-size c = λ pa pb. HasSize-wider _ _ _ _ _ (omega (arith, ints, clamps)) (omega (arith, ints, clamps)) c.sum_up.ensures.size

pub returns-else-a-b-clause-nearest : goal.returns-else-a-b-clause-nearest
returns-else-a-b-clause-nearest c = subst (IsUp c.sum_up-else-a-b.result) (plus-comm _ _) c.sum_up-else-a-b.ensures.nearest

pub returns-then-a-b-clause-exponent : goal.returns-then-a-b-clause-exponent
returns-then-a-b-clause-exponent c = HasSize-within _ _ _ _ _ (omega (arith, ints, clamps)) (omega (arith, ints, clamps)) c.sum_up.ensures.size

pub returns-else-a-b-clause-exponent : goal.returns-else-a-b-clause-exponent
returns-else-a-b-clause-exponent c = HasSize-within _ _ _ _ _ (omega (arith, ints, clamps)) (omega (arith, ints, clamps)) c.sum_up-else-a-b.ensures.size
