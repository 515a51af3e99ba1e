-- What a plan's listing encloses: every two histories of two plans in one weather.
use Rattle.std.specs.Prelude.{◌≡◌, ℕ, ℤ, All, false, List, [], ◌∷◌, map, Option}
use Rattle.decimal_input.specs.{Fraction}
use Rattle.model_types.specs.{declared.model.FlowModel.FlowModel, start_head}
use Rattle.flow_equations.specs.{SolvesAt, exact_step, heads_of}
use Rattle.deck_problems.specs.{IsMember}
use Rattle.step_chain.specs.{LiesWithin}
use Rattle.zone_pairs.specs.{pairs_in, zones_of_flow}
use Rattle.exact_histories.specs.{HaveOneHistory}
use Rattle.plan_wells.specs.{with_plan}
use Rattle.plan_histories.specs.{DifferLess, SolvesPairs}
use Rattle.plan_chain.specs.{IsPlanTask, declared.step.PlanTask.PlanTask, declared.walk.PlanEnd.PlanEnd, declared.walk.PlanEnd.TheVariants.Unfinished}
use Rattle.plan_chain.specs.{declared.walk.PlanEnd.TheVariants.Whole}
use Rattle.plan_sources.specs.{EncloseMore}
use Rattle.plan_listing.specs.declared.listing.ListedPlanStep.{ListedPlanStep}
use Rattle.plan_run.specs.Steps.{AllListedSteps}

-- The heads X and Y over d, without the plan's wells and with them, lie between a step's heads, and the drawdown between its differences; and in each
-- weather in which they solve the step, from the heads `old` and `older`, each term and each flow between zones that the plan has more lies between
-- its two.
pub record BoundsPairStep (k : PlanTask) (x : ListedPlanStep) (old older : ℕ → Fraction) (d : ℕ) (X Y : ℕ → ℤ) : Type 0 where
  pub base : LiesWithin k.base.first x.base d X
  pub planned : LiesWithin k.base.first x.planned d Y
  pub differences : DifferLess k.base.first x.differences d X Y
  pub flows : (m : FlowModel) → IsMember k.base m → SolvesAt m x.at old d X → SolvesAt (with_plan k.plan m) x.at older d Y →
      EncloseMore k.digits k.zones (exact_step m x.at.period x.at.step old) (exact_step (with_plan k.plan m) x.at.period x.at.step older) d X Y x.flows

-- this holds of each step and its two vectors, in turn
abbrev pub BoundPairs : PlanTask → ℕ → (old older : ℕ → Fraction) → List ListedPlanStep → List (ℕ → ℤ) → List (ℕ → ℤ) → Type 0
BoundPairs k d old older [] [] [] = Unit {0}
BoundPairs k d old older (x ∷ xs) (X ∷ Xs) (Y ∷ Ys) = BoundsPairStep k x old older d X Y × BoundPairs k d (heads_of d X) (heads_of d Y) xs Xs Ys
BoundPairs k d old older xs Xs Ys = ⊥

-- Every two histories over any denominator d, of the two plans in one weather, lie between these steps.
abbrev pub EnclosesPairs : PlanTask → List ListedPlanStep → Type 0
EnclosesPairs k values =
    (d : ℕ) (Xs Ys : List (ℕ → ℤ)) (h : SolvesPairs k.base k.plan d Xs Ys) → BoundPairs k d (start_head h.first) (start_head h.first) values Xs Ys

-- What flows more is listed between each two zones that share a face in the stress period, each pair once and in order; without a zone file there is none.
abbrev pub ListsMore : FlowModel → Option (List ℕ) → ListedPlanStep → Type 0
ListsMore m zones x = map zones_of_flow x.flows.zones ≡ pairs_in m zones x.at.period

-- A whole listing encloses them, with each two zones that share a face, and each plan has one history, or in each choice of weathers one.
pub record PlanListingsEnclose : Type 0 where
  pub pairs : (k : PlanTask) (values : List ListedPlanStep) → IsPlanTask k → AllListedSteps k values Whole → EnclosesPairs k values
  pub between : (k : PlanTask) (values : List ListedPlanStep) → IsPlanTask k → AllListedSteps k values Whole → All (ListsMore k.base.first k.zones) values
  pub base : (k : PlanTask) (values : List ListedPlanStep) → IsPlanTask k → AllListedSteps k values Whole → HaveOneHistory k.base
  pub planned : (k : PlanTask) (values : List ListedPlanStep) → IsPlanTask k → AllListedSteps k values Whole → HaveOneHistory k.planned

-- the files define this end: all steps are listed, or one is refused; rounds that don't settle a pair are those that were asked for
abbrev pub IsDefinedEnd : PlanEnd → Type 0
IsDefinedEnd (Unfinished at part) = ⊥
IsDefinedEnd end = Unit {0}

-- Without --quick a plan has one listing, and one end: two listings that don't end because of their rounds have the same steps and the same end.
abbrev pub PlanListingIsOne : Type 0
PlanListingIsOne =
    (k : PlanTask) (values others : List ListedPlanStep) (last other : PlanEnd) → IsPlanTask k → k.quick ≡ false → AllListedSteps k values last →
    AllListedSteps k others other → IsDefinedEnd last → IsDefinedEnd other → (others ≡ values) × (other ≡ last)
