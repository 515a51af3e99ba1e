use Rattle.gentle_steps.proofs.Common.{ℕ, ◌<◌, ◌≤ℤ◌, lower_at, upper_at}
use Rattle.gentle_steps.proofs.heads.first_crossed.Given as goal

abbrev pub invariant-loop-cell : goal.invariant-loop-cell
invariant-loop-cell l = (b : ℕ) → b < l.cell → lower_at l.listed b ≤ℤ upper_at l.listed b
