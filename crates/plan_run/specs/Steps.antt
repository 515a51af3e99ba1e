-- The steps that a plan's listing has, and how it ends.
use Rattle.std.specs.Prelude.{◌≡◌, ◌⊎◌, List, [], ◌∷◌, Result, Ok, Err}
use Rattle.step_problem.specs.declared.place.NoBound.{NoBound}
use Rattle.model_types.specs.{declared.time_steps.TimeStep.TimeStep, times}
use Rattle.plan_chain.specs.{AreStartsOf, IsPlanStep, HasNoBoundAt, IsOpenAt, declared.step.PlanHeads.PlanHeads, declared.step.PlanPart.PlanPart}
use Rattle.plan_chain.specs.{declared.step.PlanPart.TheVariants.Differences, declared.step.PlanSolved.PlanSolved, declared.step.PlanTask.PlanTask}
use Rattle.plan_chain.specs.{declared.walk.PlanEnd.PlanEnd, declared.walk.PlanEnd.TheVariants.Whole, declared.walk.PlanEnd.TheVariants.NoBound as IsNoBound}
use Rattle.plan_chain.specs.{declared.walk.PlanEnd.TheVariants.Unfinished}
unfoldable use Rattle.plan_sources.specs.{flows_of as flows_or_large}
use Rattle.plan_sources.specs.declared.flows.PlanFlows.{PlanFlows}
use Rattle.plan_listing.specs.declared.listing.ListedPlanStep.{ListedPlanStep}

-- the flows of a solved step, or the first that is too large
abbrev pub flows_of : PlanTask → PlanSolved → Result PlanFlows NoBound
flows_of k v = flows_or_large v k.zones

-- what is listed of a solved step
abbrev pub listed_of : TimeStep → PlanSolved → PlanFlows → ListedPlanStep
listed_of at v flows = record { at = at; base = v.base.heads; planned = v.planned.heads; differences = v.differences.heads; flows = flows }

-- the heads and the differences of a listed step
abbrev pub heads_listed : ListedPlanStep → PlanHeads
heads_listed x = record { base = x.base; planned = x.planned; differences = x.differences }

-- A time of a task, where `old` are the heads and the differences before it.
module _ (k : PlanTask) (at : TimeStep) (old : PlanHeads) where
  -- x is listed of its step
  pub record IsListedStep (x : ListedPlanStep) : Type 0 where
    pub solved : PlanSolved
    pub solves : IsPlanStep k at old solved
    pub flows : PlanFlows
    pub are : flows_of k solved ≡ Ok flows
    pub is : x ≡ listed_of at solved flows

  -- this part has this refusal, and none before it: of its heads, or of the flows, which come after the differences
  abbrev pub HasRefusal : PlanPart → NoBound → Type 0
  HasRefusal Differences n = HasNoBoundAt k at old Differences n ⊎ ((v : PlanSolved) × IsPlanStep k at old v × (flows_of k v ≡ Err n))
  HasRefusal part n = HasNoBoundAt k at old part n

-- Past these heads, with these times left, a listing ends so: no time is left; a part of the first one's step has this refusal; or
-- the rounds don't settle it.
abbrev pub ListingEndsAt : PlanTask → PlanEnd → PlanHeads → List TimeStep → Type 0
ListingEndsAt k Whole old [] = Unit {0}
ListingEndsAt k (IsNoBound t part n) old (at ∷ ats) = (t ≡ at) × HasRefusal k at old part n
ListingEndsAt k (Unfinished t part) old (at ∷ ats) = (t ≡ at) × IsOpenAt k at old part
ListingEndsAt k other old ats = ⊥

-- From these heads on, these are listed of the steps of these times, and `Then` holds of the heads and the times after them.
abbrev pub StepsThen : PlanTask → (PlanHeads → List TimeStep → Type 0) → PlanHeads → List TimeStep → List ListedPlanStep → Type 0
StepsThen k Then old ats [] = Then old ats
StepsThen k Then old (at ∷ ats) (x ∷ xs) = IsListedStep k at old x × StepsThen k Then (heads_listed x) ats xs
StepsThen k Then old [] (x ∷ xs) = ⊥

-- the first steps of a task, from STRT on
pub record FirstSteps (k : PlanTask) (Then : PlanHeads → List TimeStep → Type 0) (values : List ListedPlanStep) : Type 0 where
  pub start : PlanHeads
  pub is_start : AreStartsOf k start
  pub steps : StepsThen k Then start (times k.base.first) values

-- all steps of a task, up to this end
abbrev pub AllListedSteps : PlanTask → List ListedPlanStep → PlanEnd → Type 0
AllListedSteps k values last = FirstSteps k (ListingEndsAt k last) values
