use Rattle.barrier_vector.proofs.Common.{ℕ, ◌<◌, LiesOut}
use Rattle.barrier_vector.proofs.refusal.first_out_of_range.Given as goal

abbrev pub invariant-loop-c : goal.invariant-loop-c
invariant-loop-c l = (d : ℕ) → d < l.c → LiesOut l.side l.bounds d → ⊥
