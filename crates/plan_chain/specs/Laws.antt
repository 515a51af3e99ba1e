-- What the steps of a plan's listing enclose: both plans' histories in one weather, and their differences.
use Rattle.std.specs.Prelude.{ℕ, ◌<◌, ℤ, List, [], ◌∷◌, Contains}
use Rattle.decimal_input.specs.{Fraction}
use Rattle.cell_balance.specs.{minus}
use Rattle.model_types.specs.{declared.model.FlowModel.FlowModel, declared.time_steps.TimeStep.TimeStep, times}
use Rattle.flow_equations.specs.{SolvesAt}
use Rattle.problem_builder.specs.{HeadsEnclose}
use Rattle.deck_problems.specs.{IsMember}
use Rattle.step_chain.specs.{LiesWithin}
use Rattle.exact_histories.specs.{HaveOneHistory}
use Rattle.plan_wells.specs.{with_plan}
use Rattle.plan_histories.specs.{DifferLess, SolvesPairs}
use Rattle.plan_chain.specs.{Plans.ArePlanHeads, Plans.IsPlanStep, Plans.IsPlanTask, Plans.heads_in, Walks.AllPlanSteps, declared.step.PlanHeads.PlanHeads}
use Rattle.plan_chain.specs.{declared.step.PlanSolved.PlanSolved, declared.step.PlanTask.PlanTask, declared.walk.PlanEnd.TheVariants.Whole}

-- Exact heads before a step, without the plan's wells and with them, lie within these heads, and their differences within these differences.
pub record IsBeforeStep (m : FlowModel) (old : PlanHeads) (before after : ℕ → Fraction) : Type 0 where
  pub base : HeadsEnclose m old.base before
  pub planned : HeadsEnclose m old.planned after
  pub differences : HeadsEnclose m old.differences (λ c. minus (before c) (after c))

-- The heads X of the base plan, the heads Y of the other one and the drawdown X - Y, over d, lie within these at each active cell.
pub record BoundsPair (m : FlowModel) (h : PlanHeads) (d : ℕ) (X Y : ℕ → ℤ) : Type 0 where
  pub base : LiesWithin m h.base d X
  pub planned : LiesWithin m h.planned d Y
  pub differences : DifferLess m h.differences d X Y

-- A step encloses all solutions of both plans in each weather, from all exact heads within those before the step.
abbrev pub PlanStepEncloses : Type 0
PlanStepEncloses =
    (k : PlanTask) (at : TimeStep) (old : PlanHeads) (v : PlanSolved) → IsPlanTask k → Contains (times k.base.first) at → ArePlanHeads k old →
    IsPlanStep k at old v →
    (m : FlowModel) → IsMember k.base m → (before after : ℕ → Fraction) (d : ℕ) (X Y : ℕ → ℤ) → IsBeforeStep m old before after → 0 < d →
    SolvesAt m at before d X → SolvesAt (with_plan k.plan m) at after d Y → BoundsPair m (heads_in v) d X Y

-- each two vectors over d lie so within their step
abbrev pub BoundsPairs : PlanTask → ℕ → List PlanSolved → List (ℕ → ℤ) → List (ℕ → ℤ) → Type 0
BoundsPairs k d [] [] [] = Unit {0}
BoundsPairs k d (v ∷ vs) (X ∷ Xs) (Y ∷ Ys) = BoundsPair k.base.first (heads_in v) d X Y × BoundsPairs k d vs Xs Ys
BoundsPairs k d vs Xs Ys = ⊥

-- Every pair of histories in one weather lies within the steps of a whole listing.
abbrev pub PairsLieWithin : Type 0
PairsLieWithin =
    (k : PlanTask) (vs : List PlanSolved) → IsPlanTask k → AllPlanSteps k vs Whole →
    (d : ℕ) (Xs Ys : List (ℕ → ℤ)) → SolvesPairs k.base k.plan d Xs Ys → BoundsPairs k d vs Xs Ys

-- And there are such: each plan's model has one history, or so has each choice of weathers.
abbrev pub BothHaveOne : Type 0
BothHaveOne =
    (k : PlanTask) (vs : List PlanSolved) → IsPlanTask k → AllPlanSteps k vs Whole → HaveOneHistory k.base × HaveOneHistory k.planned
