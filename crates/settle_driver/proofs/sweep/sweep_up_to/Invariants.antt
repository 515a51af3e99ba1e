use Rattle.settle_driver.proofs.Common.{AreWords, AreOnTheWay, Edges}
use Rattle.settle_driver.proofs.Phasing.{ArePhased}
use Rattle.settle_driver.proofs.sweep.sweep_up_to.Given as goal

abbrev pub invariant-loop-round : goal.invariant-loop-round
invariant-loop-round l = record {
  words : AreWords l.p l.words;
  phased : (b : Edges) → AreOnTheWay l.p b l.initial.words → ArePhased l.p b l._round l.words;
}
