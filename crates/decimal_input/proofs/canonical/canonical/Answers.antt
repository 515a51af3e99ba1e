use Rattle.decimal_input.proofs.Common.{arith, ints}
use Rattle.decimal_input.proofs.Powers.{accepted, number}
use Rattle.decimal_input.proofs.canonical.canonical.Goals as goal

pub returns-else-exp-gt-GREATEST_EXPONENT-clause-exact : goal.returns-else-exp-gt-GREATEST_EXPONENT-clause-exact
returns-else-exp-gt-GREATEST_EXPONENT-clause-exact c =
    λ n h. accepted c.args.k c.args.neg n c.args.exp _ c.if-k.false c.if-k-eq0.false c.requires.few h (omega (arith, ints)) (omega (arith, ints)) (omega (arith, ints))

pub returns-else-exp-gt-GREATEST_EXPONENT-clause-number : goal.returns-else-exp-gt-GREATEST_EXPONENT-clause-number
returns-else-exp-gt-GREATEST_EXPONENT-clause-number c =
    λ n h. number c.args.k c.args.neg n _ c.if-k.false c.if-k-eq0.false c.requires.few h (omega (arith, ints)) (omega (arith, ints))
