-- The heads of one side of a listed step, as bounds of all cells of the grid, in units of 10^-9.
use Rattle.std.specs.Prelude.{◌≡◌, ℕ, List, cond}
use Rattle.step_problem.specs.{declared.heads.Bound.Bound, declared.heads.Side.Side}
use Rattle.cell_relax.specs.{heads_on}
use Rattle.model_types.specs.{declared.model.FlowModel.FlowModel, declared.time_steps.TimeStep.TimeStep, is_variable}
use Rattle.problem_builder.specs.{each_cell, known_bound}
use Rattle.gentle_check.specs.{one_head}

module _ (m : FlowModel) (at : TimeStep) (listed : List Bound) (side : Side) where
  -- a variable cell has its listed head, a constant-head cell the floor and the ceiling of its head; zeros where there is no flow
  abbrev pub side_bound : ℕ → Bound
  side_bound c = cond (is_variable m at.period c) (one_head (heads_on side listed c)) (known_bound m at c)

  abbrev pub side_bounds : List Bound
  side_bounds = each_cell m side_bound

  abbrev pub AreSideBounds : List Bound → Type 0
  AreSideBounds bounds = bounds ≡ side_bounds
