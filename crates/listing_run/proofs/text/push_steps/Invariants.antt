use Rattle.listing_run.proofs.Common.{◌≡◌, length, IsWalk, times_left}
use Rattle.listing_run.proofs.Pieces.{IsText}
use Rattle.listing_run.proofs.text.push_steps.Given as goal

abbrev pub invariant-loop-step : goal.invariant-loop-step
invariant-loop-step g l = record {
  ready : g.S.Settler.ready l.settler;
  rounds : g.S.Settler.rounds l.settler ≡ l.task.rounds;
  walk : IsWalk l.task l.steps;
  text : IsText l.task l.fn.text.items l.steps l.text.items;
}

abbrev pub decreases-loop-step : goal.decreases-loop-step
decreases-loop-step g l = length (times_left l.steps)
