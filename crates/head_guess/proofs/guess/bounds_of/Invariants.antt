use Rattle.std.proofs.Common.{◌≡◌, ◌<◌, ℕ, length}
use Rattle.step_problem.specs.{IsHead, lower_at, upper_at}
use Rattle.head_guess.proofs.guess.bounds_of.Given as goal

abbrev pub invariant-loop-cell : goal.invariant-loop-cell
invariant-loop-cell l = record {
  whole : length l.bounds.items ≡ l.cell;
  low : (c : ℕ) → c < l.cell → IsHead (lower_at l.bounds.items c);
  high : (c : ℕ) → c < l.cell → IsHead (upper_at l.bounds.items c);
}
