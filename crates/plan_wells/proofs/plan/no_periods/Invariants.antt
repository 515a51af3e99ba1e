use Rattle.plan_wells.proofs.Common.{◌≡◌, replicate, no_period}
use Rattle.plan_wells.proofs.plan.no_periods.Given as goal

abbrev pub invariant-loop : goal.invariant-loop
invariant-loop l = l.periods.items ≡ replicate l.counter no_period
