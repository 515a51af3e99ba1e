use Rattle.settle_driver.proofs.Common.{◌≡◌, ◌++◌, List, All, HeadSeat, AreNoLooser, IsSeatOf, seen_of}
use Rattle.settle_driver.proofs.phases.join_seats.Given as goal

abbrev pub invariant-loop-other : goal.invariant-loop-other
invariant-loop-other l = record {
  seat : IsSeatOf l.table l.seat;
  rest : All (λ s. IsSeatOf l.table s) l.seats.items;
  done : (gone : List HeadSeat) × (l.initial.seats.items ≡ l.seats.items ++ gone) × All (λ s. AreNoLooser l.table.problem.now (seen_of s) (seen_of l.seat)) gone;
}

abbrev pub decreases-loop-other : goal.decreases-loop-other
decreases-loop-other l = goal.left-loop-other l
