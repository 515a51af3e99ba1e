use Rattle.period_arrays.proofs.Common.{◌∙◌, arith, stops_all, periods_of, refl}
use Rattle.list_package.proofs.InPlace.{one_more_put, put_stops, all_put}
use Rattle.period_arrays.proofs.periods.read_periods.Goals as goal

pub returns-in-Err-clause-periods : goal.returns-in-Err-clause-periods
unfolding periods_of
returns-in-Err-clause-periods g c = λ files agree.
    stops_all c.in-Err.fault _ _ (put_stops _ c.loop-period.periods c.loop-period.period-index _ _
    (c.loop-period.invariant.0 files (c.in-Err.ensures.folder.since files agree)) _ (omega arith) c.in-Err.fault (c.in-Err.ensures.period files agree))

pub loop-period-preserved : goal.loop-period-preserved
loop-period-preserved g c = (
  (λ files agree. one_more_put _ c.loop-period.periods c.loop-period.period-index _ _
      (c.loop-period.invariant.0 files (c.in-Ok.ensures.folder.since files agree)) _ (omega arith) _ _ (c.in-Ok.ensures.period files agree)),
  (λ files agree. c.loop-period.invariant.1 files (c.in-Ok.ensures.folder.since files agree)),
  c.in-Ok.ensures.folder.counts ∙ c.loop-period.invariant.2,
  c.in-Ok.ensures.before,
  (λ name h. c.in-Ok.ensures.folder.still name (c.loop-period.invariant.4 name h)),
  c.in-Ok.ensures.lines,
)

pub returns-clause-periods : goal.returns-clause-periods
unfolding periods_of
returns-clause-periods g c = λ files agree. rw (all_put _ c.loop-period.periods c.loop-period.period-index _ _ (c.loop-period.invariant.0 files agree) (omega arith)) refl
