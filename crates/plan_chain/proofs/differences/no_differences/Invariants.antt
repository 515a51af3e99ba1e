use Rattle.plan_chain.proofs.Common.{◌≡◌, replicate, no_bound}
use Rattle.plan_chain.proofs.differences.no_differences.Given as goal

abbrev pub invariant-loop : goal.invariant-loop
invariant-loop l = l.all.items ≡ replicate l.counter no_bound
