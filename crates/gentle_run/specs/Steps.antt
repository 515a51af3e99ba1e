-- Whether a listed step of a model with convertible layers is certified, and the first place where it isn't.
use Rattle.std.specs.Prelude.{◌≡◌, ℕ, List, Option, Ok, Err}
use Rattle.std.specs.List.{AllZip}
use Rattle.step_problem.specs.{declared.heads.Bound.Bound, declared.place.Dir.Dir, declared.place.NoBound.NoBound, declared.place.Place.Place}
use Rattle.step_problem.specs.{declared.place.Term.Term, declared.place.ZoneFlow.ZoneFlow, Entries.Entries}
use Rattle.step_problem.specs.declared.place.Place.TheVariants as places
use Rattle.budget_bounds.specs.{declared.pair.Budget.Budget, Covers, IsFirstUncovered}
use Rattle.model_types.specs.{declared.model.FlowModel.FlowModel, declared.time_steps.TimeStep.TimeStep}
use Rattle.listing_io.specs.declared.listing.ListedStep.{ListedStep}
use Rattle.check_run.specs.{CoversFlow, IsFirstNarrow}
use Rattle.water_table.specs.declared.convertible_layers.ConvertibleLayers.{ConvertibleLayers}
use Rattle.gentle_steps.specs.{declared.fault.GentleFault.GentleFault, FailsBy, HeadsHold}
use Rattle.gentle_steps.specs.declared.fault.GentleFault.TheVariants as fault
use Rattle.gentle_budget.specs.{budget_at}
use Rattle.gentle_zones.specs.{flows_at}

-- Listed terms beside the budget of the listed heads, where p is the problem of the lower heads and q that of the upper ones.
module _ (m : FlowModel) (w : ConvertibleLayers) (s : ℕ) (at : TimeStep) (old heads : List Bound) (listed : Budget) (p q : List Entries) where
  -- The heads hold, and the listed terms are as wide as those of the budget.
  pub record IsCovered : Type 0 where
    pub hold : HeadsHold m w s at old heads p q
    pub budget : Budget
    pub is : budget_at m w s at old heads p q ≡ Ok budget
    pub covers : Covers listed budget

  -- the budget has a refusal, or this is the first term whose listed bounds are too narrow
  abbrev pub IsUncovered : GentleFault → Type 0
  IsUncovered (fault.Steep c) = ⊥
  IsUncovered (fault.Fails place) =
      (budget : Budget) × (dir : Dir) × (t : Term) × (budget_at m w s at old heads p q ≡ Ok budget)
      × IsFirstUncovered listed budget dir t × (place ≡ places.Term dir t)
  IsUncovered (fault.Refused n) = budget_at m w s at old heads p q ≡ Err n
  IsUncovered fault.Memory = Unit {0}

-- Listed flows between the zones of a zone file, if there is one, beside those at all heads between the listed ones.
module _ (m : FlowModel) (w : ConvertibleLayers) (s : ℕ) (zones : Option (List ℕ)) (at : TimeStep) (heads : List Bound) (listed : List ZoneFlow) where
  -- the listed flows are as wide
  pub record AreWide : Type 0 where
    pub flows : List ZoneFlow
    pub are : flows_at m w s at heads zones ≡ Ok flows
    pub wide : AllZip CoversFlow listed flows

  -- those have a refusal, or these are the first zones between which the listed flow is too narrow
  abbrev pub AreNarrow : GentleFault → Type 0
  AreNarrow (fault.Steep c) = ⊥
  AreNarrow (fault.Fails place) =
      (flows : List ZoneFlow) × (from : ℕ) × (to : ℕ) × (flows_at m w s at heads zones ≡ Ok flows)
      × IsFirstNarrow listed flows from to × (place ≡ places.Zone from to)
  AreNarrow (fault.Refused n) = flows_at m w s at heads zones ≡ Err n
  AreNarrow fault.Memory = Unit {0}

-- A listed step x, with s digits of conductances and the zones of a zone file, if there is one, where `old` are the listed heads of all cells before it.
module _ (m : FlowModel) (w : ConvertibleLayers) (s : ℕ) (zones : Option (List ℕ)) (at : TimeStep) (old : List Bound) (x : ListedStep) where
  -- The step is certified: its heads and terms hold, and its flows between zones are wide enough.
  pub record Passes : Type 0 where
    pub low : List Entries
    pub high : List Entries
    pub terms : IsCovered m w s at old x.heads x.budget low high
    pub wide : AreWide m w s zones at x.heads x.zones

  -- Its first refusal: of the heads; of the budget, where the heads hold; or of the flows between zones, where the terms hold.
  pub data IsRefused (n : NoBound) : Type 0 where
    no_heads : FailsBy m w s at old x.heads (fault.Refused n) → IsRefused n
    no_budget : (p q : List Entries) → HeadsHold m w s at old x.heads p q → IsUncovered m w s at old x.heads x.budget p q (fault.Refused n) → IsRefused n
    no_flows : (p q : List Entries) → IsCovered m w s at old x.heads x.budget p q → AreNarrow m w s zones at x.heads x.zones (fault.Refused n) → IsRefused n

  -- The first place that fails: of the heads; where they hold, a term of the budget; where the terms hold, a pair of zones.
  pub data FailsAt (place : Place) : Type 0 where
    at_heads : FailsBy m w s at old x.heads (fault.Fails place) → FailsAt place
    at_term : (p q : List Entries) → HeadsHold m w s at old x.heads p q → IsUncovered m w s at old x.heads x.budget p q (fault.Fails place) → FailsAt place
    at_zones : (p q : List Entries) → IsCovered m w s at old x.heads x.budget p q → AreNarrow m w s zones at x.heads x.zones (fault.Fails place) → FailsAt place

  -- the cause of a step's fault; lack of memory is possible at any time
  abbrev pub StepFailsBy : GentleFault → Type 0
  StepFailsBy (fault.Steep c) = FailsBy m w s at old x.heads (fault.Steep c)
  StepFailsBy (fault.Fails place) = FailsAt place
  StepFailsBy (fault.Refused n) = IsRefused n
  StepFailsBy fault.Memory = Unit {0}
