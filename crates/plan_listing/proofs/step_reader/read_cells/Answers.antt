use Rattle.plan_listing.proofs.Common.{◌<◌, ◌≤◌, ◌+◌, ◌-◌, arith, range_with_len, err_from_is_err_and, cell_count, each_done, each_goes_on, cells_next, each_stops, no_cells}
unfoldable use Rattle.plan_listing.specs.{plan_cell_at, plan_cells_at}
use Rattle.plan_listing.proofs.step_reader.read_cells.Goals as goal

pub returns-in_err-pairs : goal.returns-in_err-pairs
unfolding plan_cells_at
returns-in_err-pairs c =
    let n = cell_count c.args.model.now.grid in
    let i = c.loop-cell.cell in
    let lt : i < n = omega arith in
    let p = err_from_is_err_and c.from_residual.result c.from_residual.ensures.1 in
    rw (p.1, p.2) (each_stops (plan_cell_at c.args.model.now) c.in_err-pairs.field-0.0 c.loop-cell.cells.items (range_with_len i (n - i))
    (range_with_len (i + 1) (n - (i + 1))) i c.loop-cell.lines _ (cells_next n i lt) c.in_err-pairs.ensures c.loop-cell.invariant)

pub loop-cell-preserved : goal.loop-cell-preserved
loop-cell-preserved c =
    let n = cell_count c.args.model.now.grid in
    let i = c.loop-cell.cell in
    let lt : i < n = omega arith in
    rw c.in_ok-push.ensures.items (each_goes_on (plan_cell_at c.args.model.now) c.loop-cell.cells.items (range_with_len i (n - i))
    (range_with_len (i + 1) (n - (i + 1))) i c.loop-cell.lines _ c.in_ok-pairs.pairs _ (cells_next n i lt) c.in_ok-pairs.ensures c.loop-cell.invariant)

pub returns : goal.returns
unfolding plan_cells_at
returns c =
    let n = cell_count c.args.model.now.grid in
    let i = c.loop-cell.cell in
    let le : n ≤ i = omega arith in
    each_done (plan_cell_at c.args.model.now) c.loop-cell.cells.items (range_with_len i (n - i)) c.loop-cell.lines _ (no_cells n i le) c.loop-cell.invariant
