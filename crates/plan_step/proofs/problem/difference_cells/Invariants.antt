use Rattle.plan_step.proofs.Common.{◌≡◌, ◌<◌, ℕ, length, entries_at, bound_at, difference_cell}
use Rattle.plan_step.proofs.problem.difference_cells.Given as goal

abbrev pub invariant-loop-c : goal.invariant-loop-c
invariant-loop-c l =
    (length l.cells.items ≡ l.c)
    × ((k : ℕ) → k < l.c → entries_at l.cells.items k
    ≡ difference_cell (bound_at l.base_heads k) (bound_at l.planned_heads k) (bound_at l.old (entries_at l.base k).id) (entries_at l.base k) (entries_at l.planned k))
