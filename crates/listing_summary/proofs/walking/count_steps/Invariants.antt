use Rattle.listing_summary.proofs.Common.{◌≡◌, ◌*◌, ◌≤◌, length, IsWalk, times_left, Fits, cell_limit}
use Rattle.listing_summary.proofs.Counts.{IsCounted}
use Rattle.listing_summary.proofs.walking.count_steps.Given as goal

abbrev pub invariant-loop-summary : goal.invariant-loop-summary
invariant-loop-summary g l = record {
  ready : g.S.Settler.ready l.settler;
  rounds : g.S.Settler.rounds l.settler ≡ l.task.rounds;
  walk : IsWalk l.task l.steps;
  steps : l.summary.steps ≤ l.steps.done;
  heads : l.summary.heads ≤ l.steps.done * cell_limit;
  fits : Fits l.summary;
  counted : IsCounted l.task l.steps l.summary;
}

abbrev pub decreases-loop-summary : goal.decreases-loop-summary
decreases-loop-summary g l = length (times_left l.steps)
