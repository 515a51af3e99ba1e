use Rattle.step_problem.proofs.Common.{◌≡◌, ◌*◌, take, drop, ◌+ℤ◌, sum_by, total, IsMagnitudeAtMost}
use Rattle.step_problem.proofs.balance.sums.sum_branches.Given as goal

abbrev pub invariant-loop-x : goal.invariant-loop-x
invariant-loop-x g l = record {
  value : l.sum +ℤ total (g.E.Branch.flow l.side l.own) (drop l.x-index l.entries) ≡ total (g.E.Branch.flow l.side l.own) l.entries;
  within : IsMagnitudeAtMost l.sum (sum_by g.E.Branch.weight (take l.x-index l.entries) * g.E.Branch.unit);
}
