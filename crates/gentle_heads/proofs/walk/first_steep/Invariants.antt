use Rattle.gentle_heads.proofs.Common.{◌≡◌, ℕ, ◌<◌, true, is_active, IsGentleAt}
use Rattle.gentle_heads.proofs.walk.first_steep.Given as goal

abbrev pub invariant-loop-cell : goal.invariant-loop-cell
invariant-loop-cell l = (b : ℕ) → b < l.cell → is_active l.model b ≡ true → IsGentleAt l.model l.layers l.period.period l.heads b
