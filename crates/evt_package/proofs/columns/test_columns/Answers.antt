use Rattle.evt_package.proofs.Common.{sym, columns_tested, step_goes_on, steps_end, steps_done}
use Rattle.std.proofs.lemmas.Result.{err_from_is_err_and}
use Rattle.evt_package.proofs.columns.test_columns.Goals as goal

pub returns-in_err-test_column : goal.returns-in_err-test_column
unfolding columns_tested
returns-in_err-test_column c =
    let p = err_from_is_err_and c.from_residual.result c.from_residual.ensures.1 in
    rw (p.1, p.2, sym c.layer_size-columns.ensures.size)
    (steps_end _ c.in_err-test_column.field-0.0 c.layer_size-columns.result c.loop-column.column _ _ c.loop-column-test.true c.in_err-test_column.ensures
    c.loop-column.invariant)

pub loop-column-preserved : goal.loop-column-preserved
loop-column-preserved c = step_goes_on _ c.layer_size-columns.result c.loop-column.column _ _ _ c.loop-column-test.true c.in_ok-test_column.ensures c.loop-column.invariant

pub returns : goal.returns
unfolding columns_tested
returns c = rw (sym c.layer_size-columns.ensures.size) (steps_done _ c.layer_size-columns.result c.loop-column.column _ _ c.loop-column-test.false c.loop-column.invariant)
