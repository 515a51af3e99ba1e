use Rattle.std.proofs.Common.{◌≡◌, map, take, length, max, fold}
use Rattle.model_writer.proofs.lines.most_entries.Given as goal

abbrev pub invariant-loop-period : goal.invariant-loop-period
invariant-loop-period g l = l.most ≡ fold max 0 (map length (map (g.E.ListEntry.list l.kind) (take l.period-index l.periods)))
