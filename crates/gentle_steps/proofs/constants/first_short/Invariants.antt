use Rattle.gentle_steps.proofs.Common.{ℕ, ◌<◌, Side, ReachesAt}
use Rattle.gentle_steps.proofs.constants.first_short.Given as goal

abbrev pub invariant-loop-cell : goal.invariant-loop-cell
invariant-loop-cell l = (b : ℕ) → b < l.cell → (side : Side) → ReachesAt l.model l.at l.listed b side
