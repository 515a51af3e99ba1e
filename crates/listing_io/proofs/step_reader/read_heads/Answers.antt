use Rattle.listing_io.proofs.Common.{◌<◌, ◌≤◌, ◌+◌, ◌-◌, ℕ, arith, range_with_len, err_from_is_err_and, each_done, each_goes_on, cell_count, head_front, head_if, is_active, heads_at}
use Rattle.listing_io.proofs.Walks.{cells_next, each_stops, no_cells}
use Rattle.listing_io.proofs.step_reader.read_heads.Goals as goal

pub returns-in_err-head : goal.returns-in_err-head
unfolding heads_at
returns-in_err-head c =
    let n = cell_count c.args.model.now.grid in
    let i = c.loop-cell.cell in
    let lt : i < n = omega arith in
    let read = λ (k : ℕ). head_if (is_active c.args.model.now k) (head_front c.args.model.now.grid k) in
    let p = err_from_is_err_and c.from_residual.result c.from_residual.ensures.1 in
    rw (p.1, p.2) (each_stops read c.in_err-head.field-0.0 c.loop-cell.heads.items (range_with_len i (n - i))
    (range_with_len (i + 1) (n - (i + 1))) i c.loop-cell.lines _ (cells_next n i lt) c.in_err-head.ensures c.loop-cell.invariant)

pub loop-cell-preserved : goal.loop-cell-preserved
loop-cell-preserved c =
    let n = cell_count c.args.model.now.grid in
    let i = c.loop-cell.cell in
    let lt : i < n = omega arith in
    let read = λ (k : ℕ). head_if (is_active c.args.model.now k) (head_front c.args.model.now.grid k) in
    rw c.in_ok-push.ensures.items (each_goes_on read c.loop-cell.heads.items (range_with_len i (n - i))
    (range_with_len (i + 1) (n - (i + 1))) i c.loop-cell.lines _ c.in_ok-head.head _ (cells_next n i lt) c.in_ok-head.ensures c.loop-cell.invariant)

pub returns : goal.returns
unfolding heads_at
returns c =
    let n = cell_count c.args.model.now.grid in
    let i = c.loop-cell.cell in
    let le : n ≤ i = omega arith in
    let read = λ (k : ℕ). head_if (is_active c.args.model.now k) (head_front c.args.model.now.grid k) in
    each_done read c.loop-cell.heads.items (range_with_len i (n - i)) c.loop-cell.lines _ (no_cells n i le) c.loop-cell.invariant
