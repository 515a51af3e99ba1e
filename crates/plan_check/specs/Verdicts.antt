-- The verdict on a plan's listing, and its laws.
use Rattle.std.specs.Prelude.{◌≡◌, ◌⊎◌, List, [], ◌∷◌, true}
use Rattle.model_types.specs.{declared.time_steps.TimeStep.TimeStep, times}
use Rattle.zone_pairs.specs.{pairs_in}
use Rattle.exact_histories.specs.{HaveOneHistory}
use Rattle.plan_chain.specs.{declared.step.PlanHeads.PlanHeads, declared.step.PlanTask.PlanTask, AreStartsOf, IsPlanTask}
use Rattle.plan_listing.specs.{AreListedPlan, declared.listing.ListedPlanStep.ListedPlanStep}
use Rattle.plan_run.specs.{EnclosesPairs, heads_listed}
use Rattle.plan_check.specs.declared.verdict.PlanListingVerdict.{PlanListingVerdict}
use Rattle.plan_check.specs.declared.verdict.PlanListingVerdict.TheVariants.{Certified, Fails, Refused}
use Rattle.plan_check.specs.Steps.{FailsAt, IsRefused, Passes}

module _ (k : PlanTask) where
  -- the check ends at this step with this verdict
  abbrev pub StopsAt : TimeStep → PlanHeads → ListedPlanStep → PlanListingVerdict → Type 0
  StopsAt at old x Certified = ⊥
  StopsAt at old x (Fails t place) = (t ≡ at) × FailsAt k at old x place
  StopsAt at old x (Refused t part n) = (t ≡ at) × IsRefused k at old x part n

  -- From the heads and the differences `old` on, the check of these times' steps ends with this verdict. Each step is checked from the listed heads and
  -- differences of the one before it.
  abbrev pub Checks : PlanHeads → List TimeStep → List ListedPlanStep → PlanListingVerdict → Type 0
  Checks old (at ∷ rest) (x ∷ steps) end = (Passes k at old x × Checks (heads_listed x) rest steps end) ⊎ StopsAt at old x end
  Checks old [] [] Certified = Unit {0}
  Checks old [] [] (Fails t place) = ⊥
  Checks old [] [] (Refused t part n) = ⊥
  Checks old [] (x ∷ steps) end = ⊥
  Checks old (at ∷ rest) [] end = ⊥

  -- The verdict on a listing's steps: they are checked in turn, the first from STRT and differences of 0.
  pub record IsPlanVerdict (steps : List ListedPlanStep) (end : PlanListingVerdict) : Type 0 where
    pub start : PlanHeads
    pub is_start : AreStartsOf k start
    pub checks : Checks start (times k.base.first) steps end

-- Laws of the steps of a listing that can be read for a quick task, of which any certificate is a pair.
-- it has at most one verdict
abbrev pub PlanVerdictIsOne : Type 0
PlanVerdictIsOne =
    (k : PlanTask) (steps : List ListedPlanStep) (a b : PlanListingVerdict) → IsPlanTask k → k.quick ≡ true →
    AreListedPlan k.base.first (pairs_in k.base.first k.zones) steps → IsPlanVerdict k steps a → IsPlanVerdict k steps b → a ≡ b

-- Where it is certified, every two histories of the two plans in one weather lie within it, and each plan has one, or one in each choice of weathers.
pub record CertifiedPlansEnclose : Type 0 where
  pub pairs : (k : PlanTask) (steps : List ListedPlanStep) → IsPlanTask k → k.quick ≡ true →
      AreListedPlan k.base.first (pairs_in k.base.first k.zones) steps → IsPlanVerdict k steps Certified → EnclosesPairs k steps
  pub base : (k : PlanTask) (steps : List ListedPlanStep) → IsPlanTask k → k.quick ≡ true →
      AreListedPlan k.base.first (pairs_in k.base.first k.zones) steps → IsPlanVerdict k steps Certified → HaveOneHistory k.base
  pub planned : (k : PlanTask) (steps : List ListedPlanStep) → IsPlanTask k → k.quick ≡ true →
      AreListedPlan k.base.first (pairs_in k.base.first k.zones) steps → IsPlanVerdict k steps Certified → HaveOneHistory k.planned
