use Rattle.model_writer.proofs.Common.{◌≡◌, ◌++◌, map, take, text, entry_line}
use Rattle.model_writer.proofs.lines.push_entries.Given as goal

abbrev pub invariant-loop-entry : goal.invariant-loop-entry
invariant-loop-entry g l =
    l.bytes.items ≡ l.fn.bytes.items ++ text (map (entry_line l.grid g.E.ListEntry.number g.E.ListEntry.numbers) (take l.entry-index l.list))
