use Rattle.relax_worker.proofs.Common.{◌≡◌, ℕ, ◌<◌, ◌%◌, ◌-◌, Side, AreNoLooser, HasMoved, IsSeatOf, seen_on, seen_of}
use Rattle.relax_worker.proofs.workers.own_turns.Given as goal

abbrev pub invariant-loop-cell : goal.invariant-loop-cell
invariant-loop-cell l = record {
  seat : IsSeatOf l.table l.seat;
  moved : (side : Side) (c : ℕ) → c < l.cell → c % l.workers ≡ l.worker - 1 → HasMoved side l.table.problem.now (seen_on side l.initial.seat) c (seen_on side l.seat c);
  no_looser : AreNoLooser l.table.problem.now (seen_of l.initial.seat) (seen_of l.seat);
}
