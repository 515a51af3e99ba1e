use Rattle.plan_gains.proofs.Common.{arith, gain_limit, ints, ◌<ℤ◌}
use Rattle.plan_gains.proofs.Limits.{net_small}
use Rattle.plan_gains.proofs.terms.net_or_large.Goals as goal

pub returns-then-less-lt-GAIN_LIMIT-2-clause-value : goal.returns-then-less-lt-GAIN_LIMIT-2-clause-value
returns-then-less-lt-GAIN_LIMIT-2-clause-value c =
    let a : c.args.more.lo <ℤ gain_limit = omega (arith, ints) in
    let b : c.args.more.hi <ℤ gain_limit = omega (arith, ints) in
    let d : c.args.less.lo <ℤ gain_limit = omega (arith, ints) in
    let e : c.args.less.hi <ℤ gain_limit = omega (arith, ints) in
    rw c.net_of.ensures.value (net_small c.args.term c.args.more c.args.less a b d e)
