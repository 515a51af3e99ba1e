use Rattle.model_writer.proofs.Common.{◌≡◌, ◌++◌, map, take, flat_map, text, period_list}
use Rattle.model_writer.proofs.lines.push_lists_of_periods.Given as goal

abbrev pub invariant-loop-period : goal.invariant-loop-period
invariant-loop-period g l =
    l.bytes.items ≡ l.fn.bytes.items
    ++ text (flat_map (period_list l.grid g.E.ListEntry.number g.E.ListEntry.numbers) (map (g.E.ListEntry.list l.kind) (take l.period-index l.periods)))
