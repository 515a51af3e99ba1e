use Rattle.certificate_check.proofs.Common.{ℕ, ◌<◌, HoldsAt}
use Rattle.step_problem.specs.declared.heads.Side.{Side}
use Rattle.certificate_check.proofs.search.first_failing.Given as goal

abbrev pub invariant-loop-cell : goal.invariant-loop-cell
invariant-loop-cell l = (d : ℕ) → d < l.cell → (s : Side) → HoldsAt l.p l.barrier l.bounds d s
