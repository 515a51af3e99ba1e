-- Two plans in one weather: the model of each time step is that of the one deck, or any between the two, chosen anew, and the same for both plans.
use Rattle.std.specs.Prelude.{◌≡◌, ℕ, ◌<◌, ℤ, All, List, [], ◌∷◌, length}
use Rattle.decimal_input.specs.{Fraction}
use Rattle.model_types.specs.{declared.entry.Entry.Entry, declared.model.FlowModel.FlowModel, declared.time_steps.TimeStep.TimeStep, start_head, times}
use Rattle.flow_equations.specs.{SolvesAt, heads_of}
use Rattle.deck_problems.specs.{declared.decks.Decks.Decks, IsMember}
use Rattle.exact_histories.specs.{AreSame, HaveOneHistory}
use Rattle.plan_wells.specs.{with_plan}
use Rattle.plan_chain.specs.{IsPlanTask, declared.step.PlanTask.PlanTask}
use Rattle.plan_listing.specs.declared.listing.ListedPlanStep.{ListedPlanStep}
use Rattle.plan_run.specs.Laws.{BoundPairs}

-- the model whose STRT is taken, and that of each time step
pub record Weather : Type 0 where
  pub start : FlowModel
  pub steps : List FlowModel

-- a weather of decks
pub record IsWeatherOf (ds : Decks) (w : Weather) : Type 0 where
  pub start : IsMember ds w.start
  pub steps : All (IsMember ds) w.steps
  pub many : length w.steps ≡ length (times ds.first)

-- X over d solves each step's model, and Y this model with the plan's wells, each from the heads of the vectors before
abbrev pub SolveSteps : List (List Entry) → ℕ → (ℕ → Fraction) → (ℕ → Fraction) → List TimeStep → List FlowModel → List (ℕ → ℤ) → List (ℕ → ℤ) → Type 0
SolveSteps plan d old older [] [] [] [] = Unit {0}
SolveSteps plan d old older (at ∷ ats) (m ∷ ms) (X ∷ Xs) (Y ∷ Ys) =
    SolvesAt m at old d X × SolvesAt (with_plan plan m) at older d Y × SolveSteps plan d (heads_of d X) (heads_of d Y) ats ms Xs Ys
SolveSteps plan d old older ats ms Xs Ys = ⊥

-- the histories Xs and Ys over d, without the plan's wells and with them, in a weather, from STRT on
pub record SolveWeather (ds : Decks) (plan : List (List Entry)) (w : Weather) (d : ℕ) (Xs Ys : List (ℕ → ℤ)) : Type 0 where
  pub some : 0 < d
  pub steps : SolveSteps plan d (start_head w.start) (start_head w.start) (times ds.first) w.steps Xs Ys

-- In each weather both plans have histories, and any two are the same heads at all active cells, step by step.
pub record WeathersHaveOne (ds : Decks) (plan : List (List Entry)) : Type 0 where
  pub solvable : (w : Weather) → IsWeatherOf ds w → (d : ℕ) × (Xs : List (ℕ → ℤ)) × (Ys : List (ℕ → ℤ)) × SolveWeather ds plan w d Xs Ys
  pub one : (w : Weather) → IsWeatherOf ds w → (d e : ℕ) (Xs Ys Us Vs : List (ℕ → ℤ)) → SolveWeather ds plan w d Xs Ys →
      SolveWeather ds plan w e Us Vs → AreSame ds.first d e Xs Us × AreSame (with_plan plan ds.first) d e Ys Vs

-- Both plans' histories in each weather lie between these steps.
abbrev pub EnclosesWeathers : PlanTask → List ListedPlanStep → Type 0
EnclosesWeathers k values =
    (w : Weather) → IsWeatherOf k.base w → (d : ℕ) (Xs Ys : List (ℕ → ℤ)) → SolveWeather k.base k.plan w d Xs Ys →
    BoundPairs k d (start_head w.start) (start_head w.start) values Xs Ys

-- Where each plan's model has one history, or so has each choice of weathers, each weather has one of both plans.
abbrev pub HistoriesGiveWeathers : Type 0
HistoriesGiveWeathers = (k : PlanTask) → IsPlanTask k → HaveOneHistory k.base → HaveOneHistory k.planned → WeathersHaveOne k.base k.plan
