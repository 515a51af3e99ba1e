use Rattle.plan_gains.proofs.Common.{arith, ints}
use Rattle.plan_gains.proofs.terms.lower_total.Goals as goal

pub returns-clause-value : goal.returns-clause-value
returns-clause-value c = omega (arith, ints, c.sum_of_two.ensures.value, c.sum_of_four-first.ensures.value, c.sum_of_four-last.ensures.value)
