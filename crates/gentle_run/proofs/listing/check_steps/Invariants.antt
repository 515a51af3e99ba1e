use Rattle.gentle_run.proofs.Common.{drop, times, AreTablesOfPeriod, heads_before, option_map}
use Rattle.gentle_run.proofs.Checking.{IsSoFar}
use Rattle.gentle_run.proofs.listing.check_steps.Given as goal

abbrev pub invariant-loop-index : goal.invariant-loop-index
invariant-loop-index l = record {
  kept : AreTablesOfPeriod l.model l.tables.digits l.period;
  so_far : IsSoFar l.model l.layers l.tables.digits (option_map (λ z. z.now) l.fn.zones) l.listing (heads_before l.listing l.start l.index)
      (drop l.index (times l.model)) (drop l.index l.listing);
}
