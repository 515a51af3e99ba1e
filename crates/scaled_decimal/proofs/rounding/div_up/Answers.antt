use Rattle.scaled_decimal.proofs.Common.{refl, arith, pos, ints}
use Rattle.scaled_decimal.proofs.{Products.zero_up, Monotone.quotient_up_to, Monotone.no_quotient, Sizes.HasSize-within}
use Rattle.scaled_decimal.proofs.rounding.div_up.Goals as goal

pub returns-then-a-eq0-clause-nearest : goal.returns-then-a-eq0-clause-nearest
returns-then-a-eq0-clause-nearest c = zero_up _ _ refl refl (no_quotient c.args.a.m c.args.b.m 0 c.args.a.e c.args.b.e (pos 0) c.requires.divisor (omega arith))

pub returns-else-a-eq0-clause-nearest : goal.returns-else-a-eq0-clause-nearest
returns-else-a-eq0-clause-nearest c =
    c.round_up.ensures.nearest _ (quotient_up_to _ c.args.a.m c.args.b.m 18 c.args.a.e _ c.args.b.e c.requires.divisor (omega arith) (omega (arith, ints)) refl)

pub returns-else-a-eq0-clause-exponent : goal.returns-else-a-eq0-clause-exponent
returns-else-a-eq0-clause-exponent c = HasSize-within _ _ _ _ _ (omega (arith, ints)) (omega (arith, ints)) c.round_up.ensures.size
