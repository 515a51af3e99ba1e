use Rattle.barrier_vector.proofs.Common.{◌≡◌, HasEach, None, anchor_drop, ceil_over, slice_index}
use Rattle.barrier_vector.proofs.roots.anchor_roots.Given as goal

abbrev pub invariant-loop-c : goal.invariant-loop-c
invariant-loop-c l = record {
  known : l.known.drop ≡ ceil_over l.q l.known.lo;
  drops : HasEach None (λ c o. o ≡ anchor_drop l.q (slice_index l.anchors c)) l.c l.own.items;
}
