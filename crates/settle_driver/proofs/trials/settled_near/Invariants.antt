use Rattle.std.proofs.Common.{◌≡◌}
use Rattle.settle_driver.proofs.trials.settled_near.Given as goal

abbrev pub invariant-loop-trial : goal.invariant-loop-trial
invariant-loop-trial g l = record {
  rounds : g.N.Settler.rounds l.trial ≡ g.N.Settler.rounds l.initial.trial;
  ready : g.N.Settler.ready l.trial;
}
