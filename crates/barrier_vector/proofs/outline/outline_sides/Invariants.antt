use Rattle.barrier_vector.proofs.Common.{Low, High, IsOutline}
use Rattle.barrier_vector.proofs.outline.outline_sides.Given as goal

abbrev pub invariant-loop-c : goal.invariant-loop-c
invariant-loop-c l = record {
  low : IsOutline Low l.p l.c l.low.mark l.low.need l.low.anchors.items;
  high : IsOutline High l.p l.c l.high.mark l.high.need l.high.anchors.items;
}
