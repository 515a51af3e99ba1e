use Rattle.barrier_vector.proofs.Common.{ℕ, ◌≡◌, ◌*◌, ◌^◌, length, slice_index, entries_at, deep_low, sum_inside, has_label, sum_at, longest_at, greatest_inside, IsMagnitudeAtMost}
use Rattle.barrier_vector.proofs.gathered.component_totals.Given as goal

abbrev pub invariant-loop-c : goal.invariant-loop-c
invariant-loop-c l = record {
  whole : length l.totals.items ≡ length l.p;
  sums : (m : ℕ) → sum_at l.totals.items m ≡ sum_inside l.c (has_label l.labels m) (λ k. deep_low (entries_at l.p k));
  within : (m : ℕ) → IsMagnitudeAtMost (sum_at l.totals.items m) (l.c * 2 ^ 125);
  paths : (m : ℕ) → longest_at l.totals.items m ≡ greatest_inside l.c (has_label l.labels m) (slice_index l.paths);
}
