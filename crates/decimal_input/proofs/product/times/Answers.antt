use Rattle.decimal_input.proofs.Common.{◌*◌, arith, Bool, subst, ◌+ℤ◌, ints, IsCanonical}
use Rattle.decimal_input.proofs.{Named.canonical_at, Products.product_is, SignedFloors.signs_differ}
use Rattle.decimal_input.proofs.product.times.Goals as goal

pub returns-clause-exact : goal.returns-clause-exact
returns-clause-exact c =
    let can = c.canonical.ensures.exact _ c.trim_zeros-product.ensures.value in
    let P : Bool → Type 0 = λ b. IsCanonical b (c.args.a.digits * c.args.b.digits) (c.args.a.exp +ℤ c.args.b.exp) c.canonical.result in
    subst P (signs_differ c.args.a.neg c.args.b.neg) (canonical_at _ _ _ _ _ (omega (arith, ints)) can)

pub returns-clause-value : goal.returns-clause-value
returns-clause-value c = product_is c.args.a c.args.b c.canonical.result (returns-clause-exact c)

pub returns-clause-canonical : goal.returns-clause-canonical
returns-clause-canonical c = c.canonical.ensures.number _ c.trim_zeros-product.ensures.value
