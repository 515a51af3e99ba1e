use Rattle.listing_io.proofs.Common.{◌≡◌, ◌++◌, ◌+◌, ◌-◌, ◌<◌, ℕ, List, [], refl, subst, arith, drop, each_lines, get_or, length, no_bound, range_with_len, text_of, head_lines, Bound}
use Rattle.listing_io.proofs.{Walks.all_written, Walks.cells_next, Walks.lines_written, Walks.next_of, Walks.no_cells, Terms.cell_lines}
use Rattle.listing_io.proofs.listing_writer.push_heads.Goals as goal

pub loop-cell-preserved : goal.loop-cell-preserved
loop-cell-preserved c =
    let bs = c.args.heads.now in
    let n = length bs in
    let i = c.loop-cell.cell in
    let lt : i < n = omega arith in
    let rows = λ (cs : List ℕ) (hs : List Bound). each_lines (cell_lines c.args.model.now) cs hs in
    let next : rows (range_with_len i (n - i)) (drop i bs) ≡ cell_lines c.args.model.now i (get_or bs i no_bound) ++ rows (range_with_len (i + 1) (n - (i + 1)))
    (drop (i + 1) bs) = rw (cells_next n i lt, next_of bs i no_bound lt) refl in
    rw (c.in_ok-push_row_if.ensures, c.is_active.ensures, c.head_pair-pair.ensures)
    (lines_written c.loop-cell.text.items _ (rows (range_with_len i (n - i)) (drop i bs)) c.loop-cell.invariant _ _ next)

pub returns : goal.returns
unfolding head_lines
returns c =
    let bs = c.args.heads.now in
    let n = length bs in
    let i = c.loop-cell.cell in
    let rows = λ (cs : List ℕ). each_lines (cell_lines c.args.model.now) cs (drop i bs) in
    let none : rows (range_with_len i (n - i)) ≡ [] = rw (no_cells n i (omega arith)) refl in
    let P : ℕ → Type 0 = λ k. c.loop-cell.text.items ≡ c.args.text.now.items ++ text_of (each_lines (cell_lines c.args.model.now) (range_with_len 0 k) bs) in
    subst P c.requires.heads (all_written c.loop-cell.text.items _ (rows (range_with_len i (n - i))) c.loop-cell.invariant none)
