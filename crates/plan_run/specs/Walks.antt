-- Facts that the calls of a walk pass to each other.
use Rattle.std.specs.Prelude.{◌≡◌, List, ◌∷◌, Ok, Err}
use Rattle.model_types.specs.declared.time_steps.TimeStep.{TimeStep}
use Rattle.plan_chain.specs.{times_left, declared.step.PlanHeads.PlanHeads, declared.step.PlanPart.TheVariants.Differences, declared.step.PlanSolved.PlanSolved}
use Rattle.plan_chain.specs.{declared.step.PlanTask.PlanTask, declared.walk.PlanEnd.TheVariants.NoBound as IsNoBound, declared.walk.PlanStop.PlanStop}
use Rattle.plan_chain.specs.{declared.walk.PlanStop.TheVariants.End, declared.walk.PlanStop.TheVariants.Memory, declared.walk.PlanWalk.PlanWalk}
use Rattle.plan_sources.specs.declared.flows.PlanFlows.{PlanFlows}
unfoldable use Rattle.plan_listing.specs.{plan_step_text}
use Rattle.plan_listing.specs.declared.listing.ListedPlanStep.{ListedPlanStep}
use Rattle.run_puts.specs.{Text}
use Rattle.plan_run.specs.Steps.{ListingEndsAt, IsListedStep, flows_of, heads_listed, listed_of}

-- past these heads, with these times left, a walk stops so: the listing ends here; lack of memory is possible at any time
abbrev pub ListingStopsAt : PlanTask → PlanHeads → List TimeStep → PlanStop → Type 0
ListingStopsAt k old ats (End last) = ListingEndsAt k last old ats
ListingStopsAt k old ats Memory = Unit {0}

-- why a solved step has no flows
abbrev pub HasNoFlowsBy : PlanTask → TimeStep → PlanSolved → PlanStop → Type 0
HasNoFlowsBy k at v (End (IsNoBound t Differences n)) = (t ≡ at) × (flows_of k v ≡ Err n)
HasNoFlowsBy k at v (End other) = ⊥
HasNoFlowsBy k at v Memory = Unit {0}

-- the text of what is listed of a step
abbrev pub text_of : PlanTask → ListedPlanStep → Text
text_of k x = plan_step_text k.base.first k.digits x

-- the text of a solved step
pub record IsStepText (k : PlanTask) (at : TimeStep) (v : PlanSolved) (text : Text) : Type 0 where
  pub flows : PlanFlows
  pub are : flows_of k v ≡ Ok flows
  pub is : text ≡ text_of k (listed_of at v flows)

-- from the walk s to t a step was solved, and this is its text
pub record IsNextText (k : PlanTask) (s t : PlanWalk) (text : Text) : Type 0 where
  pub at : TimeStep
  pub time : times_left s ≡ at ∷ times_left t
  pub value : ListedPlanStep
  pub is : IsListedStep k at s.heads value
  pub heads : t.heads ≡ heads_listed value
  pub written : text ≡ text_of k value
