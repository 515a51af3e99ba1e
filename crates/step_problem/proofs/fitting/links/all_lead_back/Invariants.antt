use Rattle.step_problem.proofs.Common.{ℕ, ◌<◌, Contains, slice_index_or, Link, entries_at}
use Rattle.step_problem.proofs.fitting.links.all_lead_back.Given as goal

abbrev pub invariant-loop-x : goal.invariant-loop-x
invariant-loop-x l = (k : ℕ) (d : Link) → k < l.x-index →
    Contains (entries_at l.cells (slice_index_or l.links k d).cell).links
    (record { cell = l.c; lo = (slice_index_or l.links k d).lo; hi = (slice_index_or l.links k d).hi })
