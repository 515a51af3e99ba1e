use Rattle.settle_driver.proofs.Common.{ℕ, ◌<◌, Side, CanMove}
use Rattle.settle_driver.proofs.open.first_open.Given as goal

abbrev pub invariant-loop-cell : goal.invariant-loop-cell
invariant-loop-cell l = (d : ℕ) → d < l.cell → (s : Side) → CanMove l.p l.words d s → ⊥
