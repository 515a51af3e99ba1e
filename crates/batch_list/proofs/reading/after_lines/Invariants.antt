use Rattle.batch_list.proofs.Common.{◌≡◌, ◌≤◌, All, length, IsGoodName, entries, with_entries}
use Rattle.batch_list.proofs.reading.after_lines.Given as goal

abbrev pub invariant-loop-line : goal.invariant-loop-line
invariant-loop-line l = record {
  few : length l.names.items ≤ 1000;
  good : All IsGoodName l.names.items;
  same : with_entries l.file l.names.items (entries l.lines.lines) ≡ with_entries l.file l.fn.names.items (entries l.fn.lines.lines);
}

abbrev pub decreases-loop-line : goal.decreases-loop-line
decreases-loop-line l = length l.lines.lines
