use Rattle.plan_listing.proofs.Common.{◌≡◌, ◌++◌, ◌-◌, drop, length, range_with_len, each_lines, text_of, plan_cell_lines, plan_cells}
use Rattle.plan_listing.proofs.writer.push_cells.Given as goal

abbrev pub invariant-loop-cell : goal.invariant-loop-cell
invariant-loop-cell l =
    l.text.items ++ text_of (each_lines (plan_cell_lines l.model) (range_with_len l.cell (length l.base - l.cell))
    (plan_cells (drop l.cell l.base) (drop l.cell l.planned) (drop l.cell l.differences))) ≡
    l.fn.text.items ++ text_of (each_lines (plan_cell_lines l.model) (range_with_len 0 (length l.base)) (plan_cells l.base l.planned l.differences))
