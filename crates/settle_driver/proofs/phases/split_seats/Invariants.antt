use Rattle.settle_driver.proofs.Common.{◌≡◌, All, vec_len, IsSeatOf, seen_of, HasSeen}
use Rattle.settle_driver.proofs.phases.split_seats.Given as goal

abbrev pub invariant-loop-i : goal.invariant-loop-i
invariant-loop-i l = record {
  seat : IsSeatOf l.table l.seat;
  seen : seen_of l.seat ≡ seen_of l.initial.seat;
  count : vec_len l.seats ≡ l._i;
  each : All (λ s. HasSeen l.table (seen_of l.initial.seat) s) l.seats.items;
}
