use Rattle.check_run.proofs.Common.{◌≡◌, drop, option_map, times, digits_of, heads_before, AreDeckTables}
use Rattle.check_run.proofs.Checking.{IsSoFar}
use Rattle.check_run.proofs.listing.check_steps.Given as goal

abbrev pub invariant-loop-index : goal.invariant-loop-index
invariant-loop-index l = record {
  digits : digits_of l.tables.first ≡ digits_of l.fn.tables.first;
  tables : AreDeckTables l.decks (digits_of l.tables.first) l.tables;
  so_far : IsSoFar l.fn.limits l.decks (digits_of l.fn.tables.first) (option_map (λ z. z.now) l.fn.zones) l.listing (heads_before l.start l.listing l.index)
      (drop l.index (times l.decks.first)) (drop l.index l.listing);
}
