use Rattle.listing_run.proofs.Common.{◌≡◌, List, ◌++◌, None, length, Put, IsWalk, times_left}
use Rattle.listing_run.proofs.{Pieces.IsUnderWay, Settled.AreSettledSoFar}
use Rattle.listing_run.proofs.putting.put_walk.Given as goal

abbrev pub invariant-loop-at : goal.invariant-loop-at
invariant-loop-at g l = record {
  ready : g.S.Settler.ready l.settler;
  rounds : g.S.Settler.rounds l.settler ≡ l.task.rounds;
  walk : IsWalk l.task l.steps;
  puts : (start : _) (puts : List Put) → g.K.Sink.leads start puts l.fn.out → (more : List Put) × g.K.Sink.leads start (puts ++ more) l.out × IsUnderWay l.task l.steps l.pending.items more;
  goes_on : g.S.StepSettler.stop l.settler ≡ None;
  settled : AreSettledSoFar g.S.StepSettler.begins g.S.Settler.leads g.S.StepSettler.stop l.task l.fn.settler l.steps l.settler;
}

abbrev pub decreases-loop-at : goal.decreases-loop-at
decreases-loop-at g l = length (times_left l.steps)
