-- Facts that the calls of a check pass to each other.
use Rattle.std.specs.Prelude.{◌≡◌, ℕ, zero, suc, List, map, Ok, Err, Option}
use Rattle.std.specs.List.{AllZip}
use Rattle.step_problem.specs.{declared.heads.Bound.Bound, declared.place.Dir.Dir, declared.place.Term.Term, declared.place.ZoneFlow.ZoneFlow, Entries.Entries}
use Rattle.step_problem.specs.{lower_at, upper_at, declared.refusal.BoundFault.BoundFault}
use Rattle.step_problem.specs.declared.place.Place.TheVariants as places
use Rattle.budget_bounds.specs.{declared.pair.Budget.Budget, Covers, IsFirstUncovered, EnclosesBudgets, budget_of}
use Rattle.barrier_vector.specs.{EnclosesUncut}
use Rattle.step_problem.specs.declared.refusal.BoundFault.TheVariants as bound
use Rattle.cell_balance.specs.{IsHeldBelow}
use Rattle.model_types.specs.{declared.limits.Limits.Limits, declared.time_steps.TimeStep.TimeStep, variable_cells}
use Rattle.problem_builder.specs.{IsActive, IsCellNamed}
use Rattle.deck_problems.specs.{declared.decks.Decks.Decks, AreConstantHeadsFor, EnclosesChoices}
use Rattle.step_chain.specs.{IsPosed, HasNoPose}
use Rattle.listing_run.specs.{AreFlowsOf, FlowsEnclose, HasLargeFlowOf}
use Rattle.listing_io.specs.{declared.listing.ListedStep.ListedStep, step_in}
use Rattle.check_run.specs.{declared.listing.CheckFault.CheckFault, declared.posed.Posed.Posed, declared.verdict.ListingVerdict.ListingVerdict}
use Rattle.check_run.specs.{declared.verdict.ListingVerdict.TheVariants.Certified, Steps.CoversFlow, Steps.IsFirstNarrow, Steps.FailsAt, Steps.IsRefused}
use Rattle.check_run.specs.{Verdicts.IsVerdict, Verdicts.ListingEncloses}
use Rattle.check_run.specs.declared.listing.CheckFault.TheVariants as fault
use Rattle.check_run.specs.declared.verdict.ListingVerdict.TheVariants as verdict
use Rattle.exact_histories.specs.{HaveOneHistory}

-- a fault of a step by that of its problem, its barrier or its zone flows
abbrev pub of_bound : BoundFault → CheckFault
of_bound (bound.NoBound n) = fault.Refused n
of_bound bound.Memory = fault.Memory

-- the cause of a step's fault; lack of memory is possible at any time
abbrev pub FailsBy : Limits → Decks → ℕ → Option (List ℕ) → TimeStep → List Bound → ListedStep → CheckFault → Type 0
FailsBy limits d s zones at old w (fault.Fails place) = FailsAt limits d s zones at old w place
FailsBy limits d s zones at old w (fault.Refused n) = IsRefused limits d s zones at old w n
FailsBy limits d s zones at old w fault.Memory = Unit {0}

-- the cause of a fault before the listed heads are checked
abbrev pub IsUnposed : Limits → Decks → ℕ → TimeStep → List Bound → CheckFault → Type 0
IsUnposed limits d s at old (fault.Fails place) = ⊥
IsUnposed limits d s at old (fault.Refused n) = HasNoPose limits d s at old n
IsUnposed limits d s at old fault.Memory = Unit {0}

-- The constant heads, the problem and the barrier of a step, and how they enclose solutions.
pub record ArePosed (limits : Limits) (d : Decks) (s : ℕ) (at : TimeStep) (old : List Bound) (x : Posed) : Type 0 where
  pub posed : IsPosed limits d s at old x.problem x.barrier
  pub held : IsHeldBelow x.problem
  pub solutions : EnclosesUncut x.problem x.barrier
  pub named : (c : ℕ) → IsCellNamed x.problem c → IsActive d.first c
  pub cells : map (λ e. e.id) x.problem ≡ variable_cells d.first at.period
  pub encloses : EnclosesChoices d s at old x.problem
  pub constant : AreConstantHeadsFor d at x.constant_heads

-- the heads before a step of a listing, by its index
abbrev pub heads_before : List Bound → List ListedStep → ℕ → List Bound
heads_before start steps zero = start
heads_before start steps (suc i) = (step_in steps i).heads

-- listed terms are as wide as those of the budget of the heads between these bounds, which encloses every exact one
pub record IsCovered (p : List Entries) (bounds : List Bound) (listed : Budget) : Type 0 where
  pub budget : Budget
  pub is : budget_of p (lower_at bounds) (upper_at bounds) ≡ Ok budget
  pub covers : Covers listed budget
  pub encloses : EnclosesBudgets p (lower_at bounds) (upper_at bounds) budget

-- that budget has a refusal, or this is the first term whose listed bounds are too narrow
abbrev pub IsUncovered : List Entries → List Bound → Budget → CheckFault → Type 0
IsUncovered p bounds listed (fault.Fails place) =
    (budget : Budget) × (dir : Dir) × (t : Term) × (budget_of p (lower_at bounds) (upper_at bounds) ≡ Ok budget)
    × IsFirstUncovered listed budget dir t × (place ≡ places.Term dir t)
IsUncovered p bounds listed (fault.Refused n) = budget_of p (lower_at bounds) (upper_at bounds) ≡ Err n
IsUncovered p bounds listed fault.Memory = ⊥

-- listed flows between zones are as wide as those of a problem at heads of all cells, which enclose every exact one
pub record AreWide (p : List Entries) (heads : List Bound) (zones : Option (List ℕ)) (listed : List ZoneFlow) : Type 0 where
  pub flows : List ZoneFlow
  pub are : AreFlowsOf p heads zones flows
  pub wide : AllZip CoversFlow listed flows
  pub encloses : FlowsEnclose p heads zones flows

-- those have a refusal, or these are the first zones between which the listed flow is too narrow
abbrev pub AreNarrow : List Entries → List Bound → Option (List ℕ) → List ZoneFlow → CheckFault → Type 0
AreNarrow p heads zones listed (fault.Fails place) =
    (flows : List ZoneFlow) × (from : ℕ) × (to : ℕ) × AreFlowsOf p heads zones flows × IsFirstNarrow listed flows from to
    × (place ≡ places.Zone from to)
AreNarrow p heads zones listed (fault.Refused n) = HasLargeFlowOf p heads zones n
AreNarrow p heads zones listed fault.Memory = Unit {0}

-- the verdict on a listing, what it encloses where it is certified, and that there is one history then
pub record IsChecked (limits : Limits) (d : Decks) (s : ℕ) (zones : Option (List ℕ)) (all : List ListedStep) (v : ListingVerdict) : Type 0 where
  pub verdict : IsVerdict limits d s zones all v
  pub only : (other : ListingVerdict) → IsVerdict limits d s zones all other → other ≡ v
  pub encloses : v ≡ Certified → ListingEncloses d s zones all
  pub history : v ≡ Certified → HaveOneHistory d

-- the verdict from a step's fault at its time
abbrev pub IsVerdictAt : TimeStep → CheckFault → ListingVerdict → Type 0
IsVerdictAt at (fault.Fails place) v = v ≡ verdict.Fails at place
IsVerdictAt at (fault.Refused n) v = v ≡ verdict.Refused at n
IsVerdictAt at fault.Memory v = ⊥
