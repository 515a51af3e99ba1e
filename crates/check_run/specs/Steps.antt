-- Whether a step of a listing is certified, and the first place where it isn't.
use Rattle.std.specs.Prelude.{◌≡◌, ℕ, List, Ok, Err, Option, Result, ◌<◌, true, map, ◌≤ℤ◌, [], ◌∷◌, ◌⊎◌}
use Rattle.std.specs.List.{AllZip}
use Rattle.step_problem.specs.{declared.heads.Bound.Bound, declared.heads.Side.Side, declared.place.Dir.Dir, declared.place.NoBound.NoBound}
use Rattle.step_problem.specs.{declared.place.Place.Place, declared.place.Term.Term, declared.place.ZoneFlow.ZoneFlow, Entries.Entries, entries_at, Edges}
use Rattle.step_problem.specs.{lower_at, upper_at, IsCertificate, declared.heads.Side.TheVariants.Low, declared.heads.Side.TheVariants.High}
use Rattle.budget_bounds.specs.{declared.pair.Budget.Budget, Covers, IsFirstUncovered, budget_of}
use Rattle.certificate_check.specs.{IsFirstFailing}
use Rattle.model_types.specs.{declared.limits.Limits.Limits, declared.time_steps.TimeStep.TimeStep, cell_count, is_constant, variable_cells}
use Rattle.deck_problems.specs.{declared.decks.Decks.Decks, IsConstantPairFor}
use Rattle.step_chain.specs.{IsPosed, HasNoPose}
use Rattle.problem_builder.specs.{bound_at}
use Rattle.listing_io.specs.declared.listing.ListedStep.{ListedStep}
use Rattle.listing_run.specs.{AreFlowsOf, HasLargeFlowOf}
use Rattle.zone_pairs.specs.{zones_of_flow}
use Rattle.step_problem.specs.declared.place.Place.TheVariants as places

-- The listed heads of a time's constant and variable cells.
-- a listed bound is as wide as a pair on one side: at most its lower head, at least its upper one
abbrev pub ReachesOn : Side → Bound → Bound → Type 0
ReachesOn Low listed pair = listed.low ≤ℤ pair.low
ReachesOn High listed pair = pair.high ≤ℤ listed.high

-- a cell with a constant head at a time
pub record IsConstantCell (d : Decks) (at : TimeStep) (c : ℕ) : Type 0 where
  pub within : c < cell_count d.first.grid
  pub constant : is_constant d.first at.period c ≡ true

-- Of a time's constant cells, whether each reaches so far, on both sides; and the first cell and side that doesn't, the lower side first.
module _ (d : Decks) (at : TimeStep) (Reaches : ℕ → Side → Type 0) where
  abbrev pub AllReach : Type 0
  AllReach = (c : ℕ) → IsConstantCell d at c → (side : Side) → Reaches c side

  pub record IsFirstUnreached (c : ℕ) (side : Side) : Type 0 where
    pub cell : IsConstantCell d at c
    pub short : Reaches c side → ⊥
    pub least : (e : ℕ) → e < c → IsConstantCell d at e → (other : Side) → Reaches e other
    pub low_first : side ≡ High → Reaches c Low

-- A time of decks, where `heads` are the listed heads of all cells.
module _ (d : Decks) (at : TimeStep) (heads : List Bound) where
  -- the listed bounds of the variable cells, by ascending cell number
  abbrev pub variable_bounds : List Bound
  variable_bounds = map (bound_at heads) (variable_cells d.first at.period)

  -- the listed bound of cell c is as wide as the pair of its constant head, on one side
  abbrev pub ReachesAt : ℕ → Side → Type 0
  ReachesAt c side = (pair : Bound) → IsConstantPairFor d at c pair.low pair.high → ReachesOn side (bound_at heads c) pair

  -- this holds at each constant cell, on both sides; or this is the first cell and side where it doesn't
  abbrev pub ConstantsReach : Type 0
  ConstantsReach = AllReach d at ReachesAt

  abbrev pub IsFirstShort : ℕ → Side → Type 0
  IsFirstShort = IsFirstUnreached d at ReachesAt

-- Whether listed flows between zones are as wide as others, flow by flow.
-- a listed flow is as wide as a computed one between the same zones: its lower value is at most, its upper value at least
-- the computed one
pub record CoversFlow (listed computed : ZoneFlow) : Type 0 where
  pub zones : zones_of_flow listed ≡ zones_of_flow computed
  pub lower : listed.lo ≤ℤ computed.lo
  pub upper : computed.hi ≤ℤ listed.hi

-- the first listed flow that isn't as wide as the computed one in its place is that between these zones
abbrev pub IsFirstNarrow : List ZoneFlow → List ZoneFlow → ℕ → ℕ → Type 0
IsFirstNarrow (v ∷ listed) (w ∷ computed) from to =
    ((CoversFlow v w → ⊥) × (from ≡ v.from) × (to ≡ v.to)) ⊎ (CoversFlow v w × IsFirstNarrow listed computed from to)
IsFirstNarrow [] computed from to = ⊥
IsFirstNarrow (v ∷ listed) [] from to = ⊥

-- A listed step w of decks, by these limits, with s digits of conductances and the zones of a zone file, if there is one, where `old` are
-- the heads of all cells before it.
module _ (limits : Limits) (d : Decks) (s : ℕ) (zones : Option (List ℕ)) (at : TimeStep) (old : List Bound) (w : ListedStep) where
  -- the listed bounds of the variable cells
  abbrev pub bounds : List Bound
  bounds = variable_bounds d at w.heads

  -- the budget of the listed heads, or its first term that is too large
  abbrev pub budget_at : List Entries → Result Budget NoBound
  budget_at p = budget_of p (lower_at bounds) (upper_at bounds)

  -- The listed heads of the constant cells are as wide as their pairs, and those of the variable cells are a
  -- certificate of the step's problem over its barrier.
  pub record HeadsHold (p : List Entries) (b : Edges) : Type 0 where
    pub posed : IsPosed limits d s at old p b
    pub constants : ConstantsReach d at w.heads
    pub certificate : IsCertificate p b (lower_at bounds) (upper_at bounds)

  -- And its listed terms are as wide as those of the listed heads' budget.
  pub record TermsHold (p : List Entries) (b : Edges) : Type 0 where
    pub heads : HeadsHold p b
    pub budget : Budget
    pub is : budget_at p ≡ Ok budget
    pub covers : Covers w.budget budget

  -- The step is certified: its heads and terms hold, and its listed flows between zones are as wide as those at
  -- the listed heads.
  pub record Passes : Type 0 where
    pub problem : List Entries
    pub barrier : Edges
    pub terms : TermsHold problem barrier
    pub flows : List ZoneFlow
    pub are : AreFlowsOf problem w.heads zones flows
    pub wide : AllZip CoversFlow w.zones flows

  -- Its first refusal: of the problem or its barrier; of the budget, where its heads hold; or of the flows between zones,
  -- where its terms hold.
  pub data IsRefused (n : NoBound) : Type 0 where
    no_heads : HasNoPose limits d s at old n → IsRefused n
    no_budget : (p : List Entries) (b : Edges) → HeadsHold p b → budget_at p ≡ Err n → IsRefused n
    no_flows : (p : List Entries) (b : Edges) → TermsHold p b → HasLargeFlowOf p w.heads zones n → IsRefused n

  -- The first place that fails: a constant cell and its side; where those hold, a variable cell and its side; where
  -- the heads hold, a term of the budget, all In terms before all Out terms; where the terms hold, a pair of zones.
  pub data FailsAt (place : Place) : Type 0 where
    at_constant : (p : List Entries) (b : Edges) (c : ℕ) (side : Side) → IsPosed limits d s at old p b →
        IsFirstShort d at w.heads c side → place ≡ places.Cell c side → FailsAt place
    at_variable : (p : List Entries) (b : Edges) (k : ℕ) (side : Side) → IsPosed limits d s at old p b →
        ConstantsReach d at w.heads → IsFirstFailing p b bounds k side →
        place ≡ places.Cell (entries_at p k).id side → FailsAt place
    at_term : (p : List Entries) (b : Edges) (budget : Budget) (dir : Dir) (t : Term) → HeadsHold p b →
        budget_at p ≡ Ok budget → IsFirstUncovered w.budget budget dir t → place ≡ places.Term dir t → FailsAt place
    at_zones : (p : List Entries) (b : Edges) (flows : List ZoneFlow) (from to : ℕ) → TermsHold p b → AreFlowsOf p w.heads zones flows →
        IsFirstNarrow w.zones flows from to → place ≡ places.Zone from to → FailsAt place
