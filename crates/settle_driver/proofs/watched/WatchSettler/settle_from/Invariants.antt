use Rattle.settle_driver.proofs.Common.{true, ◌*◌, AddsTurns, ◌<◌, MatchOption, IsFirstOpen, AreBothSettled}
use Rattle.settle_driver.proofs.Phasing.{ArePhased}
use Rattle.settle_driver.proofs.watched.WatchSettler.settle_from.Given as goal

abbrev pub invariant-loop-round : goal.invariant-loop-round
invariant-loop-round g l = record {
  phased : ArePhased l.p l.b l._round l.words.items;
  tested : 0 < l._round → MatchOption l.open (AreBothSettled l.p l.words.items) (λ o. IsFirstOpen l.p l.words.items o.0 o.1);
  views : AddsTurns g.V.Viewer.viewed g.V.Viewer.stopped l.p l.b (l._round * l.self.views) true l.initial.viewer l.viewer;
}
