-- Whether the listed differences of a step are those of its certificate, and the first cell where they aren't.
use Rattle.std.specs.Prelude.{◌≡◌, ℕ, List}
use Rattle.step_problem.specs.{declared.heads.Bound.Bound, declared.heads.Side.Side, declared.place.NoBound.NoBound, Entries.Entries, Edges, certified}
use Rattle.step_problem.specs.{no_bound}
use Rattle.model_types.specs.{declared.time_steps.TimeStep.TimeStep, cell_count}
use Rattle.problem_builder.specs.{bound_at}
use Rattle.step_chain.specs.{declared.solved.Solved.Solved, HasNoBarrier, IsBarrierBy}
use Rattle.check_run.specs.{AllReach, CellFails, ReachesOn, variable_bounds}
use Rattle.plan_chain.specs.{declared.step.PlanTask.PlanTask, AreDifferencesBy, IsTheirProblem}

-- A constant head is the same in both plans: the listed difference of a cell is as wide as 0 on a side.
abbrev pub ReachesZero : List Bound → ℕ → Side → Type 0
ReachesZero listed c side = ReachesOn side (bound_at listed c) no_bound

-- The listed differences of a task's time, where x and y are the solved steps of both plans, and olds the differences before it.
module _ (k : PlanTask) (at : TimeStep) (x y : Solved) (olds listed : List Bound) where
  -- v are the differences by a certificate, that of the listed ones of the variable cells; those of the constant cells are as wide as 0
  pub record DifferencesHold (v : Solved) : Type 0 where
    pub differences : AreDifferencesBy k.limits x y olds (cell_count k.base.first.grid) certified v
    pub listed_bounds : v.bounds ≡ variable_bounds k.base at listed
    pub constants : AllReach k.base at (ReachesZero listed)

  -- p is their problem, and b the problem's barrier
  pub record ArePosed (p : List Entries) (b : Edges) : Type 0 where
    pub problem : IsTheirProblem k.limits x y olds p
    pub barrier : IsBarrierBy k.limits p b

  -- the first cell that fails, and its side
  abbrev pub DifferenceFailsAt : ℕ → Side → Type 0
  DifferenceFailsAt = CellFails k.base at listed (ReachesZero listed) ArePosed

  -- their problem has no barrier
  abbrev pub HaveNoBarrier : NoBound → Type 0
  HaveNoBarrier n = (p : List Entries) × IsTheirProblem k.limits x y olds p × HasNoBarrier k.limits p n
