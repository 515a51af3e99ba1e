-- What the flows of a plan's step enclose, whatever the weather.
use Rattle.std.specs.Prelude.{◌≡◌, ℕ, ◌+◌, ◌<◌, ℤ, All, List, true, slice_index_or, Option, IfSome, Ok, Contains}
use Rattle.decimal_input.specs.{EnclosesSigned, Fraction}
use Rattle.step_problem.specs.declared.place.Term.{Term}
use Rattle.cell_balance.specs.{ExactCell}
use Rattle.budget_bounds.specs.{declared.pair.TermPair.TermPair, no_pair, place_of}
use Rattle.model_types.specs.{declared.model.FlowModel.FlowModel, declared.time_steps.TimeStep.TimeStep, times}
use Rattle.flow_equations.specs.{SolvesAt, exact_step, variable_heads}
use Rattle.deck_problems.specs.{IsMember}
use Rattle.plan_wells.specs.{with_plan}
use Rattle.plan_chain.specs.{declared.step.PlanHeads.PlanHeads, declared.step.PlanSolved.PlanSolved, declared.step.PlanTask.PlanTask, ArePlanHeads}
use Rattle.plan_chain.specs.{IsBeforeStep, IsPlanStep, IsPlanTask, heads_in}
use Rattle.plan_enclosed.specs.{is_listed, more_flow, more_net}
use Rattle.plan_sources.specs.{declared.flows.PlanFlows.PlanFlows, Flows.HasFlows, Flows.flows_of}

-- the bounds of a term
abbrev pub source_in : PlanFlows → Term → TermPair
source_in x t = slice_index_or x.sources.terms (place_of t) no_pair

-- Each listed term, and each flow between zones, that the step f at the heads Y over d has more than the step e at X lies within its bounds, in units of
-- 10^-(s+9).
pub record EncloseMore (s : ℕ) (zones : Option (List ℕ)) (e f : List ExactCell) (d : ℕ) (X Y : ℕ → ℤ) (x : PlanFlows) : Type 0 where
  pub sources : (t : Term) → is_listed t ≡ true →
      EnclosesSigned (source_in x t).lo (source_in x t).hi (s + 9) (more_net e f d (variable_heads e X) (variable_heads f Y) t)
  pub between : IfSome zones (λ zs. All (λ v. EnclosesSigned v.lo v.hi (s + 9) (more_flow zs e f d X Y v.from v.to)) x.zones)

-- The flows of a step enclose what each term, and each flow between zones, has more with the plan's wells than without them, for all solutions of both
-- plans in each weather, from all exact heads within those before the step.
abbrev pub PlanFlowsEnclose : Type 0
PlanFlowsEnclose =
    (k : PlanTask) (at : TimeStep) (old : PlanHeads) (v : PlanSolved) (x : PlanFlows) → IsPlanTask k → Contains (times k.base.first) at →
    ArePlanHeads k old → IsPlanStep k at old v → flows_of v k.zones ≡ Ok x →
    (m : FlowModel) → IsMember k.base m → (before after : ℕ → Fraction) (d : ℕ) (X Y : ℕ → ℤ) → IsBeforeStep m old before after → 0 < d →
    SolvesAt m at before d X → SolvesAt (with_plan k.plan m) at after d Y →
    EncloseMore k.digits k.zones (exact_step m at.period at.step before) (exact_step (with_plan k.plan m) at.period at.step after) d X Y x

-- A step of a plan meets the conditions of `plan_flows`.
abbrev pub PlanStepsHaveFlows : Type 0
PlanStepsHaveFlows =
    (k : PlanTask) (at : TimeStep) (old : PlanHeads) (v : PlanSolved) → IsPlanTask k → Contains (times k.base.first) at → ArePlanHeads k old →
    IsPlanStep k at old v → ArePlanHeads k (heads_in v) → HasFlows k.base.first v
