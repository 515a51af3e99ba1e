use Rattle.settle_driver.proofs.Common.{◌≡◌, length, IsSeatOf, seen_of, AddsViews, ArePastBarrier}
use Rattle.settle_driver.proofs.watching.watch_turns.Given as goal

abbrev pub invariant-loop-turn : goal.invariant-loop-turn
invariant-loop-turn g l = record {
  seat : IsSeatOf l.table l.seat;
  past : ArePastBarrier l.p l.b (seen_of l.seat);
  whole : length l.heads ≡ length l.p;
  views : AddsViews g.V.Viewer.viewed g.V.Viewer.stopped l.p l.b l.turn l.initial.viewer l.viewer;
}
