use Rattle.barrier_vector.proofs.Common.{◌≡◌, ℕ, max, drop, greatest, FnReturnsAt}
use Rattle.barrier_vector.proofs.roots.greatest_lower.Given as goal

abbrev pub invariant-loop-x : goal.invariant-loop-x
invariant-loop-x g l = (lo : _ → ℕ) → ((x : _) (r : ℕ) → FnReturnsAt g.F.Fn l.lower x r → r ≡ lo x) → max l.best (greatest lo (drop l.x-index l.entries)) ≡ greatest lo l.entries
