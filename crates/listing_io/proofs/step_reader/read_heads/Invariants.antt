use Rattle.listing_io.proofs.Common.{◌≡◌, ◌-◌, ℕ, for_each, range_with_len, with_front, cell_count, head_front, head_if, is_active}
use Rattle.listing_io.proofs.step_reader.read_heads.Given as goal

abbrev pub invariant-loop-cell : goal.invariant-loop-cell
invariant-loop-cell l =
    let read = λ (c : ℕ). head_if (is_active l.model c) (head_front l.model.grid c) in
    with_front l.heads.items (for_each read (range_with_len l.cell (cell_count l.model.grid - l.cell)) l.lines) ≡ for_each read (range_with_len 0 (cell_count l.model.grid)) l.fn.lines
