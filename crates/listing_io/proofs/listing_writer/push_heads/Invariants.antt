use Rattle.listing_io.proofs.Common.{◌≡◌, ◌++◌, ◌-◌, drop, each_lines, length, range_with_len, text_of}
use Rattle.listing_io.proofs.Terms.{cell_lines}
use Rattle.listing_io.proofs.listing_writer.push_heads.Given as goal

abbrev pub invariant-loop-cell : goal.invariant-loop-cell
invariant-loop-cell l =
    l.text.items ++ text_of (each_lines (cell_lines l.model) (range_with_len l.cell (length l.heads - l.cell)) (drop l.cell l.heads)) ≡
    l.fn.text.items ++ text_of (each_lines (cell_lines l.model) (range_with_len 0 (length l.heads)) l.heads)
