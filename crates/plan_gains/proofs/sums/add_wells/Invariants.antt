use Rattle.plan_gains.proofs.Common.{◌≡◌, IsSum, capped_term, drop, filter, map, parts, plus_pair, true, well_gain}
use Rattle.plan_gains.proofs.sums.add_wells.Given as goal

abbrev pub invariant-loop-x : goal.invariant-loop-x
invariant-loop-x l = record {
  value : capped_term (plus_pair l.all (parts l.dir (map well_gain (filter (λ q. true) (drop l.x-index l.wells))))) ≡
      capped_term (plus_pair l.fn.sum (parts l.dir (map well_gain (filter (λ q. true) l.wells))));
  sum : IsSum l.all;
}
