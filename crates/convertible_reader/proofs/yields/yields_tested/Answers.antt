use Rattle.convertible_reader.proofs.Common.{err_from_is_err_and, sym, yields_tested, step_goes_on, steps_done, steps_end}
use Rattle.convertible_reader.proofs.yields.yields_tested.Goals as goal

pub returns-in_err-yield_tested : goal.returns-in_err-yield_tested
unfolding yields_tested
returns-in_err-yield_tested c =
    let p = err_from_is_err_and c.from_residual.result c.from_residual.ensures.1 in
    rw (p.1, p.2, sym c.cell_count-cells.ensures.count)
    (steps_end _ c.in_err-yield_tested.field-0.0 c.cell_count-cells.result c.loop-cell.cell _ _ c.loop-cell-test.true c.in_err-yield_tested.ensures
    c.loop-cell.invariant)

pub loop-cell-preserved : goal.loop-cell-preserved
loop-cell-preserved c = step_goes_on _ c.cell_count-cells.result c.loop-cell.cell _ _ _ c.loop-cell-test.true c.in_ok-yield_tested.ensures c.loop-cell.invariant

pub returns : goal.returns
unfolding yields_tested
returns c = rw (sym c.cell_count-cells.ensures.count) (steps_done _ c.cell_count-cells.result c.loop-cell.cell _ _ c.loop-cell-test.false c.loop-cell.invariant)
