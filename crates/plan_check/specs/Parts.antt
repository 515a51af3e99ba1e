-- Facts that the calls of a check pass to each other.
use Rattle.std.specs.Prelude.{◌≡◌, ℕ, zero, suc, List, [], Err, slice_index_or}
use Rattle.step_problem.specs.{declared.heads.Bound.Bound, declared.heads.Side.Side, declared.place.Place.Place, declared.refusal.BoundFault.BoundFault}
use Rattle.step_problem.specs.declared.place.Place.TheVariants as place
use Rattle.step_problem.specs.declared.refusal.BoundFault.TheVariants as bound
use Rattle.model_types.specs.declared.time_steps.TimeStep.{TimeStep}
use Rattle.step_chain.specs.declared.solved.Solved.{Solved}
use Rattle.check_run.specs.declared.listing.CheckFault.{CheckFault}
use Rattle.check_run.specs.declared.listing.CheckFault.TheVariants as check
use Rattle.plan_chain.specs.{declared.step.PlanHeads.PlanHeads, declared.step.PlanPart.PlanPart, declared.step.PlanPart.TheVariants.Differences}
use Rattle.plan_chain.specs.{declared.step.PlanSolved.PlanSolved, declared.step.PlanTask.PlanTask}
use Rattle.plan_sources.specs.declared.flows.PlanFlows.{PlanFlows}
unfoldable use Rattle.plan_sources.specs.{flows_of}
use Rattle.plan_listing.specs.{declared.last_lines.PlanPlace.PlanPlace, declared.listing.ListedPlanStep.ListedPlanStep}
use Rattle.plan_listing.specs.declared.last_lines.PlanPlace.TheVariants as places
use Rattle.plan_run.specs.{heads_listed}
use Rattle.plan_check.specs.{declared.before.HeadsBefore.HeadsBefore, declared.fault.PlanCheckFault.PlanCheckFault}
use Rattle.plan_check.specs.{declared.verdict.PlanListingVerdict.PlanListingVerdict, Differences.DifferenceFailsAt, Differences.HaveNoBarrier, Steps.FailsAt}
use Rattle.plan_check.specs.{Steps.FlowFailsAt, Steps.IsRefused}
use Rattle.plan_check.specs.declared.fault.PlanCheckFault.TheVariants as fault
use Rattle.plan_check.specs.declared.verdict.PlanListingVerdict.TheVariants as verdict

-- the place of a part's step in a plan's listing
abbrev pub place_in : PlanPart → Place → PlanPlace
place_in part (place.Cell c side) = places.Cell part c side
place_in part (place.Term dir t) = places.Source t
place_in part (place.Zone a b) = places.Zone a b

-- the fault of a plan's step by that of a part of it
abbrev pub of_check : PlanPart → CheckFault → PlanCheckFault
of_check part (check.Fails p) = fault.Fails (place_in part p)
of_check part (check.Refused n) = fault.Refused part n
of_check part check.Memory = fault.Memory

-- by that of its differences' barrier, or its flows
abbrev pub of_bound : BoundFault → PlanCheckFault
of_bound (bound.NoBound n) = fault.Refused Differences n
of_bound bound.Memory = fault.Memory

-- the heads and the differences that are lent to a step
abbrev pub lent_heads : HeadsBefore → PlanHeads
lent_heads h = record { base = h.base.now; planned = h.planned.now; differences = h.differences.now }

-- a step of a listing by its index
abbrev no_step : ListedPlanStep
no_step = record {
  at = record { period = 0; step = 0 };
  base = [];
  planned = [];
  differences = [];
  flows = record { sources = record { terms = [] }; zones = [] };
}

abbrev pub step_at : List ListedPlanStep → ℕ → ListedPlanStep
step_at steps i = slice_index_or steps i no_step

-- the heads and the differences before it
abbrev pub heads_before : PlanHeads → List ListedPlanStep → ℕ → PlanHeads
heads_before start steps zero = start
heads_before start steps (suc i) = heads_listed (step_at steps i)

-- the cause of a fault of the differences; lack of memory is possible at any time
abbrev pub DifferencesFailBy : PlanTask → TimeStep → Solved → Solved → List Bound → List Bound → PlanCheckFault → Type 0
DifferencesFailBy k at x y olds listed (fault.Fails p) =
    (c : ℕ) × (side : Side) × DifferenceFailsAt k at x y olds listed c side × (p ≡ places.Cell Differences c side)
DifferencesFailBy k at x y olds listed (fault.Refused part n) = HaveNoBarrier k at x y olds listed n × (part ≡ Differences)
DifferencesFailBy k at x y olds listed fault.Memory = Unit {0}

-- of the flows
abbrev pub FlowsFailBy : PlanTask → PlanSolved → PlanFlows → PlanCheckFault → Type 0
FlowsFailBy k v listed (fault.Fails p) = FlowFailsAt k v listed p
FlowsFailBy k v listed (fault.Refused part n) = (flows_of v k.zones ≡ Err n) × (part ≡ Differences)
FlowsFailBy k v listed fault.Memory = Unit {0}

-- of a step
abbrev pub FailsBy : PlanTask → TimeStep → PlanHeads → ListedPlanStep → PlanCheckFault → Type 0
FailsBy k at old x (fault.Fails p) = FailsAt k at old x p
FailsBy k at old x (fault.Refused part n) = IsRefused k at old x part n
FailsBy k at old x fault.Memory = Unit {0}

-- the verdict from a step's fault at its time
abbrev pub IsVerdictAt : TimeStep → PlanCheckFault → PlanListingVerdict → Type 0
IsVerdictAt at (fault.Fails p) v = v ≡ verdict.Fails at p
IsVerdictAt at (fault.Refused part n) v = v ≡ verdict.Refused at part n
IsVerdictAt at fault.Memory v = ⊥
