use Rattle.relax_worker.proofs.Common.{AreNoLooser, IsSeatOf, seen_of}
use Rattle.relax_worker.proofs.workers.work.Given as goal

abbrev pub invariant-loop-number : goal.invariant-loop-number
invariant-loop-number g l = record {
  seat : IsSeatOf l.table l.seat;
  no_looser : AreNoLooser l.table.problem.now (seen_of l.initial.seat) (seen_of l.seat);
}
