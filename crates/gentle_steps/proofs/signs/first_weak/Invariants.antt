use Rattle.gentle_steps.proofs.Common.{ℕ, ◌<◌, Side, HasSignAt}
use Rattle.gentle_steps.proofs.signs.first_weak.Given as goal

abbrev pub invariant-loop-index : goal.invariant-loop-index
invariant-loop-index l = (k : ℕ) → k < l.index → (side : Side) → HasSignAt l.model l.layers l.tables.digits l.at l.old l.listed l.posed.low l.posed.high k side
