-- The problem of a step of the differences, from the base plan's problem and the other plan's.
use Rattle.std.specs.Prelude.{◌≡◌, ℕ, ◌<◌, List, [], ◌++◌, drop, length, map}
use Rattle.step_problem.specs.{declared.heads.Bound.Bound, Entries.Entries, entries_at, lower_at, upper_at}
use Rattle.plan_step.specs.Branches.{drain_branch, evap_branch, known_branch, river_branch, turned}

-- the bound at a place of a list
abbrev pub bound_at : List Bound → ℕ → Bound
bound_at bounds i = record { low = lower_at bounds i; high = upper_at bounds i }

-- A cell, where its head lies within x in the base plan and within y in the other one, and the old difference within `old`. The
-- other plan's wells come after the flows of the base plan's cell.
abbrev pub difference_cell : Bound → Bound → Bound → Entries → Entries → Entries
difference_cell x y old base planned = record {
  id = base.id;
  flows = map turned (drop (length base.flows) planned.flows);
  links = base.links;
  fixed = map (known_branch old) base.fixed
      ++ (map (river_branch base.id x y) base.rivers ++ (map (drain_branch base.id x y) base.drains ++ map (evap_branch base.id x y) base.evaps));
  rivers = [];
  drains = [];
  evaps = [];
}

-- p is the problem of the differences, where xs and ys are the heads of the variable cells in the two plans, by index, and olds the
-- old differences of the grid's cells, by cell number.
pub record IsDifferenceProblem (base planned : List Entries) (xs ys olds : List Bound) (p : List Entries) : Type 0 where
  pub as_many : length p ≡ length base
  pub cells : (c : ℕ) → c < length base →
      entries_at p c ≡ difference_cell (bound_at xs c) (bound_at ys c) (bound_at olds (entries_at base c).id) (entries_at base c) (entries_at planned c)
