use Rattle.list_package.proofs.Common.{None, ◌≡◌, drop, for_each, period_at, take, with_front}
use Rattle.list_package.proofs.lists.read_periods.Given as goal

abbrev pub invariant-loop-period : goal.invariant-loop-period
invariant-loop-period g l =
    with_front (take l.period-index l.periods) (for_each (period_at l.limits (g.E.ListEntry.kind l.lists) l.file l.grid) (drop l.period-index l.periods) (l.last, l.lines))
    ≡ for_each (period_at l.limits (g.E.ListEntry.kind l.lists) l.file l.grid) l.fn.periods (None, l.fn.lines)
