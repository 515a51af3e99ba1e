use Rattle.array_reader.proofs.Common.{refl, err_from_is_err_and, step_goes_on, steps_end, steps_done, ends_all, zero_list}
use Rattle.array_reader.proofs.ZeroLemmas.{step_goes, step_stops}
use Rattle.array_reader.proofs.zeros.zero_list.Goals as goal

pub returns-in_err-zero_item : goal.returns-in_err-zero_item
unfolding zero_list
returns-in_err-zero_item c =
    let p = err_from_is_err_and c.from_residual.result c.from_residual.ensures.1 in
    rw (p.1, p.2) (ends_all c.in_err-zero_item.field-0.0 _ _ (steps_end _ c.in_err-zero_item.field-0.0 c.args.count c.loop-i.i _ _ c.loop-i-test.true
    (step_stops c.args.file.now c.loop-i.i _ _ c.in_err-zero_item.ensures) c.loop-i.invariant))

pub loop-i-preserved : goal.loop-i-preserved
loop-i-preserved c = step_goes_on _ c.args.count c.loop-i.i _ _ _ c.loop-i-test.true (step_goes c.args.file.now c.loop-i.i _ _ c.in_ok-zero_item.field-0 c.in_ok-zero_item.ensures) c.loop-i.invariant

pub returns : goal.returns
unfolding zero_list
returns c = rw (steps_done _ c.args.count c.loop-i.i _ _ c.loop-i-test.false c.loop-i.invariant) refl
