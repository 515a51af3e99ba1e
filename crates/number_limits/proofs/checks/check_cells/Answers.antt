use Rattle.number_limits.proofs.Common.{sym, check_result, step_goes_on, steps_end, steps_done}
use Rattle.std.proofs.lemmas.Result.{err_from_is_err_and}
use Rattle.number_limits.proofs.checks.check_cells.Goals as goal

pub returns-in_err-check_cell : goal.returns-in_err-check_cell
unfolding check_result
returns-in_err-check_cell c =
    let p = err_from_is_err_and c.from_residual.result c.from_residual.ensures.1 in
    rw (p.1, p.2, sym c.cell_count-cells.ensures.count)
    (steps_end _ c.in_err-check_cell.field-0.0 c.cell_count-cells.result c.loop-cell.cell _ _ c.loop-cell-test.true c.in_err-check_cell.ensures
    c.loop-cell.invariant)

pub loop-cell-preserved : goal.loop-cell-preserved
loop-cell-preserved c = step_goes_on _ c.cell_count-cells.result c.loop-cell.cell _ _ _ c.loop-cell-test.true c.in_ok-check_cell.ensures c.loop-cell.invariant

pub returns : goal.returns
unfolding check_result
returns c = rw (sym c.cell_count-cells.ensures.count) (steps_done _ c.cell_count-cells.result c.loop-cell.cell _ _ c.loop-cell-test.false c.loop-cell.invariant)
