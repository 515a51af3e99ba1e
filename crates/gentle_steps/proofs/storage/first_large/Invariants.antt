use Rattle.gentle_steps.proofs.Common.{ℕ, ◌<◌, StoredWaterFits}
use Rattle.gentle_steps.proofs.storage.first_large.Given as goal

abbrev pub invariant-loop-cell : goal.invariant-loop-cell
invariant-loop-cell l = (b : ℕ) → b < l.cell → StoredWaterFits l.model l.layers l.tables.digits l.at b
