use Rattle.certificate_check.proofs.Common.{ℕ, ◌<◌, HoldsAt}
use Rattle.certificate_check.proofs.search.first_on.Given as goal

abbrev pub invariant-loop-cell : goal.invariant-loop-cell
invariant-loop-cell l = (d : ℕ) → d < l.cell → HoldsAt l.p l.barrier l.bounds d l.side
