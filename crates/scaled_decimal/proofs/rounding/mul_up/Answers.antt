use Rattle.scaled_decimal.proofs.Common.{◌*◌, refl, arith, pos, ints}
use Rattle.scaled_decimal.proofs.{Products.exact_up_to, Products.zero_up, Products.no_product, Products.scaled_times_at, Sizes.HasSize-within}
use Rattle.scaled_decimal.proofs.rounding.mul_up.Goals as goal

pub returns-then-product-eq0-clause-nearest : goal.returns-then-product-eq0-clause-nearest
returns-then-product-eq0-clause-nearest c = zero_up _ _ refl refl (no_product c.args.a.m c.args.b.m 0 c.args.a.e c.args.b.e (pos 0) (omega arith))

pub returns-else-product-eq0-clause-nearest : goal.returns-else-product-eq0-clause-nearest
returns-else-product-eq0-clause-nearest c =
    c.round_up.ensures.nearest _ (exact_up_to _ _ (c.args.a.m * c.args.b.m) _ (omega arith) (scaled_times_at c.args.a.m c.args.b.m c.args.a.e c.args.b.e _ (omega (arith, ints))))

pub returns-else-product-eq0-clause-exponent : goal.returns-else-product-eq0-clause-exponent
returns-else-product-eq0-clause-exponent c = HasSize-within _ _ _ _ _ (omega (arith, ints)) (omega (arith, ints)) c.round_up.ensures.size
