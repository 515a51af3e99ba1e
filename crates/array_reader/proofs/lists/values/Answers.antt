use Rattle.array_reader.proofs.Common.{err_from_is_err_and, ends_text, is_done}
use Rattle.record_lines.proofs.Loops.{goes_on}
use Rattle.array_reader.proofs.lists.values.Goals as goal

pub returns-in_err-value : goal.returns-in_err-value
returns-in_err-value g c =
    let p = err_from_is_err_and c.from_residual-in_err-value.result c.from_residual-in_err-value.ensures.1 in
    rw (p.1, p.2) (ends_text _ c.in_err-value.field-0.0 c.loop.values.items c.args.count c.loop.counter _ _ c.loop-test.true c.in_err-value.ensures.value c.loop.invariant.0)

pub loop-preserved : goal.loop-preserved
loop-preserved g c = (
  rw c.in_ok-push.ensures.items (goes_on _ c.loop.values.items c.args.count c.loop.counter _ _ c.in_ok-value.value _ c.loop-test.true c.in_ok-value.ensures.value c.loop.invariant.0),
  c.in_ok-value.ensures.last,
)

pub returns : goal.returns
returns g c = is_done _ c.loop.values.items c.args.count c.loop.counter _ _ c.loop-test.false c.loop.invariant.0
