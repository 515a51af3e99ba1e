use Rattle.plan_gains.proofs.Common.{◌≡◌, IsSum, branch_gain, capped_term, counts, drop, filter, map, parts, plus_pair}
use Rattle.plan_gains.proofs.sums.add_branches.Given as goal

abbrev pub invariant-loop-x : goal.invariant-loop-x
invariant-loop-x l = record {
  value : capped_term (plus_pair l.all (parts l.dir (map (branch_gain l.own.low l.own.high) (filter (λ b. counts l.term b) (drop l.x-index l.branches))))) ≡
      capped_term (plus_pair l.fn.sum (parts l.dir (map (branch_gain l.own.low l.own.high) (filter (λ b. counts l.term b) l.branches))));
  sum : IsSum l.all;
}
