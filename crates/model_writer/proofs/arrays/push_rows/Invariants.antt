use Rattle.model_writer.proofs.Common.{◌≡◌, ◌-◌, ◌++◌, row_lines, text}
use Rattle.model_writer.proofs.arrays.push_rows.Given as goal

abbrev pub invariant-loop : goal.invariant-loop
invariant-loop g l =
    l.bytes.items ++ text (row_lines g.T.Word.word (l.rows - l.counter) l.cols l.left)
    ≡ l.fn.bytes.items ++ text (row_lines g.T.Word.word l.rows l.cols l.fn.values)
