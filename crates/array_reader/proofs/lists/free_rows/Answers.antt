use Rattle.array_reader.proofs.Common.{refl, err_from_is_err_and, list_goes_on, list_ends, lists_done, free_rows}
use Rattle.array_reader.proofs.lists.free_rows.Goals as goal

pub returns-in_err-row : goal.returns-in_err-row
unfolding free_rows
returns-in_err-row g c =
    let p = err_from_is_err_and c.from_residual-in_err-row.result c.from_residual-in_err-row.ensures.1 in
    rw (p.1, p.2) (list_ends _ c.in_err-row.field-0.0 c.loop.values.items c.args.rows c.loop.counter _ _ c.loop-test.true c.in_err-row.ensures c.loop.invariant)

pub loop-preserved : goal.loop-preserved
loop-preserved g c =
    rw (c.in_ok-extend_from_slice.ensures.items, c.deref.ensures.value)
    (list_goes_on _ c.loop.values.items c.args.rows c.loop.counter _ _ c.in_ok-row.row.items _ c.loop-test.true c.in_ok-row.ensures c.loop.invariant)

pub returns : goal.returns
unfolding free_rows
returns g c = lists_done _ c.loop.values.items c.args.rows c.loop.counter _ _ c.loop-test.false c.loop.invariant
