use Rattle.settle_driver.proofs.Sweeping.{Swept}
use Rattle.settle_driver.proofs.sweep.sweep.Given as goal

abbrev pub invariant-loop-cell : goal.invariant-loop-cell
invariant-loop-cell l = Swept l.p l.initial.words l.words l.moved l.cell
