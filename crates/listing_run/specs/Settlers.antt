-- What a run does to the settler of its steps, of the states S. It gives the settler the time of each step:
-- `begins old period step new`. Then it settles the step's problem: `leads old p b ended new`. It asks why it has to stop: `stop`.
use Rattle.std.specs.Prelude.{◌≡◌, ◌⊎◌, ℕ, List, [], ◌∷◌, Bool, true, false, Option, None, Result, Ok, Err}
use Rattle.outside.specs.declared.traits.SinkError.{SinkError}
use Rattle.step_problem.specs.{declared.heads.Bound.Bound, Entries.Entries, Edges, lower_at, upper_at, RoundsSettleBoth, declared.place.NoBound.NoBound}
use Rattle.deck_problems.specs.{declared.decks.Decks.Decks, EachChoice, AreStartHeadsFor}
use Rattle.model_types.specs.{declared.limits.Limits.Limits, declared.time_steps.TimeStep.TimeStep, times}
use Rattle.settle_driver.specs.{HoldsPair}
use Rattle.step_chain.specs.{edges_by, IsPosed, LieBetween, IsStepBy, HasNoHeads, SettlesIn, declared.solved.Solved.Solved}
use Rattle.listing_run.specs.{declared.steps.Task.Task, declared.solving.Step.Step, declared.text.ListingEnd.ListingEnd, Tasks.pairs_of, Tasks.AreFlowsAt}
use Rattle.listing_run.specs.{Tasks.HasLargeFlow}
use Rattle.budget_bounds.specs.{declared.pair.Budget.Budget, budget_of}
use Rattle.listing_run.specs.declared.text.ListingEnd.TheVariants as ends

-- The steps of a listing: each from the heads of the one before it, the first from STRT.
-- the bounds of a solved step's budget, or its first term that is too large
abbrev pub budget_at : Solved → Result Budget NoBound
budget_at x = budget_of x.problem (lower_at x.bounds) (upper_at x.bounds)

-- A time of a task, where `old` are the heads of all cells before it.
module _ (k : Task) (at : TimeStep) (old : List Bound) where
  -- its problem, with a pair of the task's kind
  abbrev pub IsSolved : Solved → Type 0
  IsSolved x = IsStepBy k.limits k.decks k.digits at old (pairs_of k) x

  -- v is its step: the heads, the budget and the flows between zones of its solved problem
  pub record IsStep (v : Step) : Type 0 where
    pub solved : Solved
    pub solves : IsSolved solved
    pub time : v.at ≡ at
    pub heads : v.heads ≡ solved.heads
    pub budget : budget_at solved ≡ Ok v.budget
    pub zones : AreFlowsAt k.zones solved v.zones

  -- its first refusal: of the problem or the barrier, then of the budget, then of the flows between zones
  pub data HasNoBound (n : NoBound) : Type 0 where
    no_heads : HasNoHeads k.limits k.decks k.digits at old n → HasNoBound n
    no_budget : (solved : Solved) → IsSolved solved → budget_at solved ≡ Err n → HasNoBound n
    no_zones : (solved : Solved) (budget : Budget) → IsSolved solved → budget_at solved ≡ Ok budget → HasLargeFlow k.zones solved n → HasNoBound n

  -- the task's rounds don't settle it
  pub record IsOpen : Type 0 where
    pub problem : List Entries
    pub barrier : Edges
    pub posed : IsPosed k.limits k.decks k.digits at old problem barrier
    pub open_rounds : RoundsSettleBoth problem (edges_by k.limits barrier) k.rounds → ⊥

-- Past these heads, with these times left, a listing ends so: no time is left; the step of the first one has this refusal;
-- or the rounds don't settle it.
abbrev pub EndsAt : Task → ListingEnd → List Bound → List TimeStep → Type 0
EndsAt k ends.Whole old [] = Unit {0}
EndsAt k (ends.NoBound t n) old (at ∷ times) = (t ≡ at) × HasNoBound k at old n
EndsAt k (ends.Unfinished t) old (at ∷ times) = (t ≡ at) × IsOpen k at old
EndsAt k other old times = ⊥

-- From the heads `old` on, the steps of these times have these values, and `Then` holds of the heads and the times after them.
abbrev pub StepsThen : Task → (List Bound → List TimeStep → Type 0) → List Bound → List TimeStep → List Step → Type 0
StepsThen k Then old times [] = Then old times
StepsThen k Then old (at ∷ times) (v ∷ values) = IsStep k at old v × StepsThen k Then v.heads times values
StepsThen k Then old [] (v ∷ values) = ⊥

-- up to this end
abbrev pub Steps : Task → List Bound → List TimeStep → List Step → ListingEnd → Type 0
Steps k old times values last = StepsThen k (EndsAt k last) old times values

-- the steps of the model, from STRT on
pub record FirstSteps (k : Task) (Then : List Bound → List TimeStep → Type 0) (values : List Step) : Type 0 where
  pub start : List Bound
  pub is_start : AreStartHeadsFor k.decks start
  pub steps : StepsThen k Then start (times k.decks.first) values

-- all steps of the model, up to this end
abbrev pub AllSteps : Task → List Step → ListingEnd → Type 0
AllSteps k values last = FirstSteps k (EndsAt k last) values

-- the task's rounds settle each of these steps
abbrev pub AllSettle : Task → List Bound → List TimeStep → List Step → Type 0
AllSettle k old [] values = Unit {0}
AllSettle k old (at ∷ steps) [] = Unit {0}
AllSettle k old (at ∷ steps) (v ∷ values) = SettlesIn k.limits k.decks k.digits at old k.rounds × AllSettle k v.heads steps values

-- Every solution of each choice of the step, from all exact heads within the old ones, lies between these heads at the problem's variable cells; with
-- wide limits every solution whose heads are in range.
abbrev pub EnclosesSolutions : Limits → Decks → TimeStep → List Bound → List Entries → List Bound → Type 0
EnclosesSolutions limits d at old p heads = EachChoice d at (λ y. LieBetween limits d.first at y old p (lower_at heads) (upper_at heads))

-- Where the settled pair of a step's problem lies between heads, every solution does.
abbrev pub PairEncloses : Limits → Decks → TimeStep → List Bound → List Entries → Edges → Type 0
PairEncloses limits d at old p b = (heads : List Bound) → HoldsPair p (edges_by limits b) heads → EnclosesSolutions limits d at old p heads

module _ {S : Type 0} (leads : S → List Entries → Edges → Bool → S → Type 0) (k : Task) where
  -- the problem of a step from these old heads was settled, ending with heads or without
  pub record IsSettledBy (at : TimeStep) (old : List Bound) (ended : Bool) (before after : S) : Type 0 where
    pub problem : List Entries
    pub barrier : Edges
    pub posed : IsPosed k.limits k.decks k.digits at old problem barrier
    pub encloses : PairEncloses k.limits k.decks at old problem barrier
    pub led : leads before problem (edges_by k.limits barrier) ended after

  -- no problem was settled, or that of the step was
  abbrev pub RestsOrSettles : TimeStep → List Bound → S → S → Type 0
  RestsOrSettles at old before after = (after ≡ before) ⊎ ((ended : Bool) × IsSettledBy at old ended before after)

  -- no problem was settled, or that of the first of these times was
  abbrev pub RestsOrSettlesFirst : List TimeStep → List Bound → S → S → Type 0
  RestsOrSettlesFirst [] old before after = after ≡ before
  RestsOrSettlesFirst (at ∷ times) old before after = RestsOrSettles at old before after

module _ {S : Type 0} (begins : S → ℕ → ℕ → S → Type 0) (leads : S → List Entries → Edges → Bool → S → Type 0) (stop : S → Option SinkError) (k : Task) where
  -- A settler, where these times are left and `old` are the heads before them, was told each time and settled the step of it with heads,
  -- which are the step's, and never had to stop. Where the account is not whole, it did nothing more from some time on, or was told that
  -- time and then settled no problem, or that of its step.
  pub data Reaches (whole : Bool) : List Bound → List TimeStep → S → S → Type 0 where
    rests : (old : List Bound) (times : List TimeStep) (s : S) → (whole ≡ false) ⊎ (times ≡ []) → Reaches whole old times s s
    begun : (old : List Bound) (at : TimeStep) (times : List TimeStep) (s told t : S) → whole ≡ false → begins s at.period at.step told →
        RestsOrSettles leads k at old told t → Reaches whole old (at ∷ times) s t
    settled : (old : List Bound) (at : TimeStep) (times : List TimeStep) (v : Step) (s told done t : S) → IsStep k at old v →
        begins s at.period at.step told → IsSettledBy leads k at old true told done → stop done ≡ None →
        Reaches whole v.heads times done t → Reaches whole old (at ∷ times) s t

  -- so it did with the steps of the model, from STRT on
  pub record ReachesFirst (whole : Bool) (before after : S) : Type 0 where
    pub start : List Bound
    pub is_start : AreStartHeadsFor k.decks start
    pub reaches : Reaches whole start (times k.decks.first) before after
