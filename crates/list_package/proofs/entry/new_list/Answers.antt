use Rattle.list_package.proofs.Common.{err_from_is_err_and, ends_text, is_done, ends_all, new_list, refl}
use Rattle.record_lines.proofs.Loops.{goes_on}
use Rattle.list_package.proofs.entry.new_list.Goals as goal

pub returns-in_err-entry : goal.returns-in_err-entry
unfolding new_list
returns-in_err-entry g c =
    let p = err_from_is_err_and c.from_residual-in_err-entry.result c.from_residual-in_err-entry.ensures.1 in
    rw (p.1, p.2) (ends_all c.in_err-entry.field-0.0 _ _
    (ends_text _ c.in_err-entry.field-0.0 c.loop.list.items c.args.count c.loop.counter _ _ c.loop-test.true c.in_err-entry.ensures c.loop.invariant))

pub loop-preserved : goal.loop-preserved
loop-preserved g c = rw c.in_ok-push.ensures.items (goes_on _ c.loop.list.items c.args.count c.loop.counter _ _ c.in_ok-entry.entry _ c.loop-test.true c.in_ok-entry.ensures c.loop.invariant)

pub returns : goal.returns
unfolding new_list
returns g c = rw (is_done _ c.loop.list.items c.args.count c.loop.counter _ _ c.loop-test.false c.loop.invariant) refl
