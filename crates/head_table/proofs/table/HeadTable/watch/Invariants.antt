use Rattle.head_table.proofs.Common.{◌≡◌, ℕ, ◌<◌, Side, AreNoLooser, heads_on, IsSeatOf, barrier_of, seen_on, seen_of, edge_on, IsNoTighterThanSettled}
use Rattle.head_table.proofs.table.HeadTable.watch.Given as goal

abbrev pub invariant-loop-cell : goal.invariant-loop-cell
invariant-loop-cell l = record {
  seat : IsSeatOf l.self l.seat;
  shown : (side : Side) (c : ℕ) → c < l.cell → heads_on side l.bounds c ≡ seen_on side l.seat c;
  held : (side : Side) (c : ℕ) → c < l.cell → IsNoTighterThanSettled side l.self.problem.now (edge_on side (barrier_of l.self)) c (heads_on side l.bounds c);
  no_looser : AreNoLooser l.self.problem.now (seen_of l.initial.seat) (seen_of l.seat);
}
