use Rattle.plan_run.proofs.Common.{◌≡◌, List, ◌++◌, length, Put, IsPlanWalk, times_left}
use Rattle.plan_run.proofs.Pieces.{IsUnderWay}
use Rattle.plan_run.proofs.putting.put_walk.Given as goal

abbrev pub invariant-loop-status : goal.invariant-loop-status
invariant-loop-status g l = record {
  ready : g.S.Settler.ready l.settler;
  rounds : g.S.Settler.rounds l.settler ≡ l.task.rounds;
  walk : IsPlanWalk l.task l.walk;
  puts : (start : _) (puts : List Put) → g.K.Sink.leads start puts l.fn.out → (more : List Put) × g.K.Sink.leads start (puts ++ more) l.out × IsUnderWay l.task l.walk l.pending.items more;
}

abbrev pub decreases-loop-status : goal.decreases-loop-status
decreases-loop-status g l = length (times_left l.walk)
