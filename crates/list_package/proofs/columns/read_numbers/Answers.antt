use Rattle.list_package.proofs.Common.{arith, err_from_is_err_and, IsDec, ends_text, is_done, All-push, All-same}
use Rattle.record_lines.proofs.Loops.{goes_on}
use Rattle.list_package.proofs.columns.read_numbers.Goals as goal

pub returns-in_err-x-clause-numbers : goal.returns-in_err-x-clause-numbers
returns-in_err-x-clause-numbers c =
    let p = err_from_is_err_and c.from_residual.result c.from_residual.ensures.1 in
    rw (p.1, p.2) (ends_text _ c.in_err-x.field-0.0 c.loop.numbers.items _ c.loop.counter _ _ c.loop-test.true c.in_err-x.ensures.value c.loop.invariant.0)

pub loop-preserved : goal.loop-preserved
loop-preserved c = (
  rw c.in_ok-push.ensures.items (goes_on _ c.loop.numbers.items _ c.loop.counter _ _ c.in_ok-x.x _ c.loop-test.true c.in_ok-x.ensures.value c.loop.invariant.0),
  grind arith,
  All-same IsDec _ _ c.in_ok-push.ensures.items (All-push IsDec c.loop.numbers.items c.in_ok-x.x c.loop.invariant.2 c.in_ok-x.ensures.canonical),
)

pub returns-clause-numbers : goal.returns-clause-numbers
returns-clause-numbers c = is_done _ c.loop.numbers.items _ c.loop.counter _ _ c.loop-test.false c.loop.invariant.0
