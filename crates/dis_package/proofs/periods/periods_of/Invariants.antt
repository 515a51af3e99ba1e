use Rattle.dis_package.proofs.Common.{◌≡◌, ◌-◌, ◌≤◌, repeated_reading, with_front, period_at}
use Rattle.dis_package.proofs.periods.periods_of.Given as goal

abbrev pub invariant-loop : goal.invariant-loop
invariant-loop l =
    (with_front l.periods.items (repeated_reading (l.count - l.counter) (period_at l.file) (l.steps, l.lines)) ≡ repeated_reading l.count (period_at l.file) (0, l.fn.lines))
    × (l.steps ≤ 100000)
