use Rattle.plan_listing.proofs.Common.{◌≡◌, drop, with_front, ArePairs, pairs_in, zones_of, plan_step_at}
unfoldable use Rattle.record_lines.specs.{for_each}
use Rattle.plan_listing.proofs.listing_reader.read_steps.Given as goal

abbrev pub invariant-loop-at : goal.invariant-loop-at
invariant-loop-at l = record {
  pairs : ArePairs l.fn.model l.pairs;
  zones : zones_of l.pairs ≡ zones_of l.fn.pairs;
  steps : with_front l.steps.items (for_each (plan_step_at l.fn.model l.fn.s (pairs_in l.fn.model (zones_of l.fn.pairs))) (drop l.at-index l.times) l.lines) ≡
      for_each (plan_step_at l.fn.model l.fn.s (pairs_in l.fn.model (zones_of l.fn.pairs))) l.times l.fn.lines;
}
