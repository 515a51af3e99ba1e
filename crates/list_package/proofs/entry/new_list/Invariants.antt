use Rattle.list_package.proofs.Common.{no_marks, ◌≡◌, ◌-◌, repeated_reading, with_front, entry_at}
use Rattle.list_package.proofs.entry.new_list.Given as goal

abbrev pub invariant-loop : goal.invariant-loop
invariant-loop g l =
    with_front l.list.items (repeated_reading (l.count - l.counter) (entry_at (g.E.ListEntry.kind l.lists) l.file l.grid) (l.marks, l.lines)) ≡
    repeated_reading l.count (entry_at (g.E.ListEntry.kind l.lists) l.file l.grid) (no_marks (g.E.ListEntry.kind l.lists) l.grid, l.fn.lines)
