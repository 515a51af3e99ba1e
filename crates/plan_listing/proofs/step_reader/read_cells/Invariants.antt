use Rattle.plan_listing.proofs.Common.{◌≡◌, ◌-◌, range_with_len, cell_count, with_front}
unfoldable use Rattle.record_lines.specs.{for_each}
unfoldable use Rattle.plan_listing.specs.{plan_cell_at}
use Rattle.plan_listing.proofs.step_reader.read_cells.Given as goal

abbrev pub invariant-loop-cell : goal.invariant-loop-cell
invariant-loop-cell l =
    with_front l.cells.items (for_each (plan_cell_at l.model) (range_with_len l.cell (cell_count l.model.grid - l.cell)) l.lines) ≡
    for_each (plan_cell_at l.model) (range_with_len 0 (cell_count l.model.grid)) l.fn.lines
