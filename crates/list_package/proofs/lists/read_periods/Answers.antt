use Rattle.list_package.proofs.Common.{arith, err_from_is_err_and, ends_all, periods_of, refl}
use Rattle.list_package.proofs.InPlace.{one_more_put, put_ends, all_put}
use Rattle.list_package.proofs.lists.read_periods.Goals as goal

pub returns-in_err-read_period : goal.returns-in_err-read_period
unfolding periods_of
returns-in_err-read_period g c =
    let p = err_from_is_err_and c.from_residual.result c.from_residual.ensures.1 in
    rw (p.1, p.2) (ends_all c.in_err-read_period.field-0.0 _ _ (put_ends _ c.loop-period.periods c.loop-period.period-index _ _ c.loop-period.invariant _
    (omega arith) c.in_err-read_period.field-0.0 c.in_err-read_period.ensures))

pub loop-period-preserved : goal.loop-period-preserved
loop-period-preserved g c = one_more_put _ c.loop-period.periods c.loop-period.period-index _ _ c.loop-period.invariant _ (omega arith) _ _ c.in_ok-read_period.ensures

pub returns : goal.returns
unfolding periods_of
returns g c = rw (all_put _ c.loop-period.periods c.loop-period.period-index _ _ c.loop-period.invariant (omega arith)) refl
