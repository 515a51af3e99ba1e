use Rattle.std.proofs.Common.{◌-ℤ◌, unsigned_abs}
use Rattle.cell_relax.proofs.Relaxing.{Relaxing}
use Rattle.cell_relax.proofs.relax.relax_to.Given as goal

abbrev pub invariant-loop-beyond : goal.invariant-loop-beyond
invariant-loop-beyond l = Relaxing l.side l.p l.cell l.own l.values l.reached l.beyond

abbrev pub decreases-loop-beyond : goal.decreases-loop-beyond
decreases-loop-beyond l = unsigned_abs (l.beyond -ℤ l.reached)
