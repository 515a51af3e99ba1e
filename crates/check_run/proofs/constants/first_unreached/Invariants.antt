use Rattle.check_run.proofs.Common.{ℕ, ◌<◌, Side, IsConstantCell, ReachesAt}
use Rattle.check_run.proofs.constants.first_unreached.Given as goal

abbrev pub invariant-loop-cell : goal.invariant-loop-cell
invariant-loop-cell l = (d : ℕ) → d < l.cell → IsConstantCell l.decks l.fn.at d → (side : Side) → ReachesAt l.decks l.fn.at l.heads d side
