use Rattle.std.proofs.Common.{◌≡◌, ◌≤◌, ℕ, Contains, min, sum_by, take}
use Rattle.std.specs.Fn.{FnReturnsAt}
use Rattle.step_problem.proofs.fitting.sums.sum_capped.Given as goal

abbrev pub invariant-loop-x : goal.invariant-loop-x
invariant-loop-x g l = record {
  value : (of : _ → ℕ) → ((x : _) (r : ℕ) → Contains l.entries x → FnReturnsAt g.F.Fn l.size x r → r ≡ of x) → l.sum ≡ min (sum_by of (take l.x-index l.entries)) l.cap;
  capped : l.sum ≤ l.cap;
}
