use Rattle.barrier_vector.proofs.Common.{ℕ, ◌<◌, IsMissing}
use Rattle.barrier_vector.proofs.refusal.first_missing.Given as goal

abbrev pub invariant-loop-c : goal.invariant-loop-c
invariant-loop-c l = (d : ℕ) → d < l.c → IsMissing l.bounds d → ⊥
