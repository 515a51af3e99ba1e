use Rattle.dis_package.proofs.Common.{refl, err_from_is_err_and, ends_text, is_done, ends_all, periods_of}
use Rattle.record_lines.proofs.Loops.{goes_on}
use Rattle.dis_package.proofs.periods.periods_of.Goals as goal

pub returns-in_err-period : goal.returns-in_err-period
unfolding periods_of
returns-in_err-period c =
    let p = err_from_is_err_and c.from_residual.result c.from_residual.ensures.1 in
    record {
      periods = rw (p.1, p.2) (ends_all c.in_err-period.field-0.0 _ _
          (ends_text _ c.in_err-period.field-0.0 c.loop.periods.items c.args.count c.loop.counter _ _ c.loop-test.true c.in_err-period.ensures.period
          c.loop.invariant.0));
    }

pub loop-preserved : goal.loop-preserved
loop-preserved c = (
  rw c.in_ok-push.ensures.items (goes_on _ c.loop.periods.items c.args.count c.loop.counter _ _ c.in_ok-period.period _ c.loop-test.true c.in_ok-period.ensures.period c.loop.invariant.0),
  c.in_ok-period.ensures.most,
)

pub returns : goal.returns
unfolding periods_of
returns c = record { periods = rw (is_done _ c.loop.periods.items c.args.count c.loop.counter _ _ c.loop-test.false c.loop.invariant.0) refl }
