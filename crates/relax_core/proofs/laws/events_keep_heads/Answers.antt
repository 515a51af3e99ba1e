use Rattle.relax_core.proofs.Common.{ℕ, ℤ, IsSide, turn_keeps, exchange_is_as_tight, still_seen, own_turn_keeps_seen, KeepsHeads}
use Rattle.step_problem.proofs.BothSides.{low_side, high_side}
use Rattle.relax_core.proofs.laws.events_keep_heads.Goals as goal

side_keeps : {Le : ℤ → ℤ → Type 0} {Moves : ℕ → ℤ → (ℕ → ℤ) → Type 0} {n : ℕ} → IsSide Le Moves n → KeepsHeads Le Moves n
side_keeps s = record { exchange = turn_keeps s; tighter = exchange_is_as_tight s; still = still_seen s; look = own_turn_keeps_seen s }

pub returns : goal.returns
returns c p ok = (side_keeps (low_side p ok), side_keeps (high_side p ok))
