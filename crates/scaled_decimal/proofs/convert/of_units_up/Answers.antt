use Rattle.scaled_decimal.proofs.Common.{pos, neg_ℤ, refl, arith, ints}
use Rattle.scaled_decimal.proofs.{Nearest.up_same, Products.zero_is_at_most, Products.zero_up, Products.nothing_same, Products.exact_up_to_at}
use Rattle.scaled_decimal.proofs.convert.of_units_up.Goals as goal

pub returns-then-units-eq0-clause-nearest : goal.returns-then-units-eq0-clause-nearest
returns-then-units-eq0-clause-nearest c = zero_up _ _ refl refl (zero_is_at_most c.args.units 0 (neg_ℤ (pos c.args.places)) (pos 0) (omega arith))

pub returns-then-units-eq0-clause-exact : goal.returns-then-units-eq0-clause-exact
returns-then-units-eq0-clause-exact c = λ _. nothing_same 0 c.args.units (pos 0) (neg_ℤ (pos c.args.places)) refl (omega arith)

pub returns-then-units-clause-nearest : goal.returns-then-units-clause-nearest
returns-then-units-clause-nearest c = up_same c.to_digits.result c.args.units _ (neg_ℤ (pos c.args.places)) (omega (arith, ints)) c.to_digits.ensures.decimal c.to_digits.ensures.same

pub returns-else-units-clause-nearest : goal.returns-else-units-clause-nearest
returns-else-units-clause-nearest c = c.round_up.ensures.nearest _ (exact_up_to_at _ c.args.units _ (neg_ℤ (pos c.args.places)) (omega arith) (omega (arith, ints)))
