use Rattle.step_problem.proofs.Common.{ℕ, ◌<◌, entries_at}
use Rattle.step_problem.proofs.fitting.ids_ascend.Given as goal

abbrev pub invariant-loop-d : goal.invariant-loop-d
invariant-loop-d l = (a b : ℕ) → a < b → b < l.d → (entries_at l.cells a).id < (entries_at l.cells b).id
