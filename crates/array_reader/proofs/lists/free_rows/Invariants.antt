use Rattle.array_reader.proofs.Common.{◌≡◌, ◌-◌, appended_readings, with_front, with_multiplier, free_list}
use Rattle.array_reader.proofs.lists.free_rows.Given as goal

abbrev pub invariant-loop : goal.invariant-loop
invariant-loop g l =
    with_front l.values.items (appended_readings (l.rows - l.counter) (free_list (with_multiplier g.V.Value.kind l.by) l.file l.cols) l.lines) ≡
    appended_readings l.rows (free_list (with_multiplier g.V.Value.kind l.by) l.file l.cols) l.fn.lines
