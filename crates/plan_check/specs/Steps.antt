-- Whether a step of a plan's listing is certified, and the first place where it isn't.
use Rattle.std.specs.Prelude.{◌≡◌, ℕ, Ok, Err}
use Rattle.std.specs.List.{AllZip}
use Rattle.step_problem.specs.{declared.heads.Side.Side, declared.place.Dir.Dir, declared.place.NoBound.NoBound, declared.place.Term.Term}
use Rattle.budget_bounds.specs.{declared.pair.Budget.Budget, Covers, IsFirstUncovered}
use Rattle.model_types.specs.declared.time_steps.TimeStep.{TimeStep}
use Rattle.step_chain.specs.{declared.solved.Solved.Solved, HasNoPose}
use Rattle.check_run.specs.{AreChecked, CoversFlow, FailAt, IsFirstNarrow}
use Rattle.plan_chain.specs.{declared.step.PlanHeads.PlanHeads, declared.step.PlanPart.PlanPart, declared.step.PlanSolved.PlanSolved}
use Rattle.plan_chain.specs.{declared.step.PlanTask.PlanTask}
use Rattle.plan_chain.specs.declared.step.PlanPart.TheVariants as parts
use Rattle.plan_sources.specs.{declared.flows.PlanFlows.PlanFlows, declared.flows.Sources.Sources}
unfoldable use Rattle.plan_sources.specs.{flows_of}
use Rattle.plan_listing.specs.{declared.last_lines.PlanPlace.PlanPlace, declared.listing.ListedPlanStep.ListedPlanStep}
use Rattle.plan_listing.specs.declared.last_lines.PlanPlace.TheVariants as places
use Rattle.plan_check.specs.Differences.{DifferenceFailsAt, DifferencesHold, HaveNoBarrier}

-- the sources of a step as a budget, on both of its sides
abbrev pub as_budget : Sources → Budget
as_budget x = record { into = x.terms; out = x.terms }

-- Listed flows of a solved step v: what each term gives more, and what flows more between zones.
module _ (k : PlanTask) (v : PlanSolved) (listed : PlanFlows) where
  -- the flows at its differences are these, and the listed sources are as wide
  pub record SourcesHold (flows : PlanFlows) : Type 0 where
    pub are : flows_of v k.zones ≡ Ok flows
    pub covers : Covers (as_budget listed.sources) (as_budget flows.sources)

  -- so are the listed flows between zones
  pub record AreWide : Type 0 where
    pub flows : PlanFlows
    pub sources : SourcesHold flows
    pub wide : AllZip CoversFlow listed.zones flows.zones

  -- the first term that is too narrow; where none is, the first two zones
  pub data FlowFailsAt (place : PlanPlace) : Type 0 where
    at_source : (flows : PlanFlows) (dir : Dir) (t : Term) → flows_of v k.zones ≡ Ok flows →
        IsFirstUncovered (as_budget listed.sources) (as_budget flows.sources) dir t → place ≡ places.Source t → FlowFailsAt place
    at_zones : (flows : PlanFlows) (from to : ℕ) → SourcesHold flows → IsFirstNarrow listed.zones flows.zones from to → place ≡ places.Zone from to →
        FlowFailsAt place

-- A listed step x of a task, where `old` are the heads and the differences before it: those of the listed step before.
module _ (k : PlanTask) (at : TimeStep) (old : PlanHeads) (x : ListedPlanStep) where
  -- the listed heads without the plan's wells, and those with them, are of these steps
  abbrev pub BaseHolds : Solved → Type 0
  BaseHolds b = AreChecked k.limits k.base k.digits at old.base x.base b

  abbrev pub PlannedHolds : Solved → Type 0
  PlannedHolds p = AreChecked k.limits k.planned k.digits at old.planned x.planned p

  -- so are the listed differences
  pub record HeadsHold (v : PlanSolved) : Type 0 where
    pub base : BaseHolds v.base
    pub planned : PlannedHolds v.planned
    pub differences : DifferencesHold k at v.base v.planned old.differences x.differences v.differences

  -- The step is certified: its heads, its differences and its flows hold.
  pub record Passes : Type 0 where
    pub solved : PlanSolved
    pub heads : HeadsHold solved
    pub flows : AreWide k solved x.flows

  -- The first place that fails: a cell of the heads without the plan's wells, then of those with them, then of the differences; then a flow.
  pub data FailsAt (place : PlanPlace) : Type 0 where
    in_base : (c : ℕ) (side : Side) → FailAt k.limits k.base k.digits at old.base x.base c side → place ≡ places.Cell parts.Base c side → FailsAt place
    in_planned : (b : Solved) (c : ℕ) (side : Side) → BaseHolds b → FailAt k.limits k.planned k.digits at old.planned x.planned c side →
        place ≡ places.Cell parts.Planned c side → FailsAt place
    in_differences : (b p : Solved) (c : ℕ) (side : Side) → BaseHolds b → PlannedHolds p →
        DifferenceFailsAt k at b p old.differences x.differences c side → place ≡ places.Cell parts.Differences c side → FailsAt place
    in_flows : (v : PlanSolved) → HeadsHold v → FlowFailsAt k v x.flows place → FailsAt place

  -- The first refusal, and its part: of a part's problem or barrier, where the parts before it hold; or of the flows, where all three hold.
  pub data IsRefused (part : PlanPart) (n : NoBound) : Type 0 where
    of_base : HasNoPose k.limits k.base k.digits at old.base n → part ≡ parts.Base → IsRefused part n
    of_planned : (b : Solved) → BaseHolds b → HasNoPose k.limits k.planned k.digits at old.planned n → part ≡ parts.Planned → IsRefused part n
    of_differences : (b p : Solved) → BaseHolds b → PlannedHolds p → HaveNoBarrier k at b p old.differences x.differences n →
        part ≡ parts.Differences → IsRefused part n
    of_flows : (v : PlanSolved) → HeadsHold v → flows_of v k.zones ≡ Err n → part ≡ parts.Differences → IsRefused part n
