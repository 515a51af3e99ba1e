use Rattle.settle_driver.proofs.Sweeping.{Listed}
use Rattle.settle_driver.proofs.plain.relax_listed.Given as goal

abbrev pub invariant-loop-cell : goal.invariant-loop-cell
invariant-loop-cell l = Listed l.p l.initial.words l.words
