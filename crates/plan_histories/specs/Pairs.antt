-- Two plans in one weather: at each time step a model between two decks, and the same model with the plan's wells. The model is chosen
-- anew at each step, and is the same for both plans.
use Rattle.std.specs.Prelude.{◌≡◌, ℕ, ◌<◌, ℤ, ◌-ℤ◌, List, [], ◌∷◌, length}
use Rattle.decimal_input.specs.{Fraction}
use Rattle.step_problem.specs.{PairKind, declared.heads.Bound.Bound}
use Rattle.model_types.specs.{declared.entry.Entry.Entry, declared.limits.Limits.Limits, declared.model.FlowModel.FlowModel}
use Rattle.model_types.specs.{declared.time_steps.TimeStep.TimeStep, start_head, times, IsModel}
use Rattle.flow_equations.specs.{SolvesAt, heads_of}
use Rattle.deck_span.specs.{AreChoices, Choice, SolvesChoices}
use Rattle.deck_problems.specs.{declared.decks.Decks.Decks, IsMember}
use Rattle.step_chain.specs.{declared.solved.Solved.Solved, AreAllSteps, LiesWithin, two}
use Rattle.exact_histories.specs.{ChoicesHaveOne}
use Rattle.plan_wells.specs.{with_plan}

-- One step of two plans in one weather: X over d solves a member of the decks, that of one deck or one between two, from the heads `old`,
-- and Y that model with the plan's wells, from the heads `older`.
pub record SolvesPairAt (ds : Decks) (plan : List (List Entry)) (at : TimeStep) (old older : ℕ → Fraction) (d : ℕ) (X Y : ℕ → ℤ) : Type 0 where
  pub model : FlowModel
  pub member : IsMember ds model
  pub base : SolvesAt model at old d X
  pub planned : SolvesAt (with_plan plan model) at older d Y

-- two vectors for each of these time steps, each from the heads of the vectors before
abbrev pub SolvesPairsFrom : Decks → List (List Entry) → ℕ → (ℕ → Fraction) → (ℕ → Fraction) → List TimeStep →
    List (ℕ → ℤ) → List (ℕ → ℤ) → Type 0
SolvesPairsFrom ds plan d old older [] [] [] = Unit {0}
SolvesPairsFrom ds plan d old older (at ∷ ats) (X ∷ Xs) (Y ∷ Ys) =
    SolvesPairAt ds plan at old older d X Y × SolvesPairsFrom ds plan d (heads_of d X) (heads_of d Y) ats Xs Ys
SolvesPairsFrom ds plan d old older ats Xs Ys = ⊥

-- The histories Xs and Ys over d, without the plan's wells and with them: d is above 0, and they solve all time steps in turn, from
-- STRT of one member.
pub record SolvesPairs (ds : Decks) (plan : List (List Entry)) (d : ℕ) (Xs Ys : List (ℕ → ℤ)) : Type 0 where
  pub some : 0 < d
  pub first : FlowModel
  pub member : IsMember ds first
  pub steps : SolvesPairsFrom ds plan d (start_head first) (start_head first) (times ds.first) Xs Ys

-- The drawdown, the head without the plan less the head with it, lies between these bounds at each active cell.
abbrev pub DifferLess : FlowModel → List Bound → ℕ → (ℕ → ℤ) → (ℕ → ℤ) → Type 0
DifferLess m bounds d X Y = LiesWithin m bounds d (λ c. X c -ℤ Y c)

-- it does so at each time step
abbrev pub DifferBetween : FlowModel → ℕ → List (List Bound) → List (ℕ → ℤ) → List (ℕ → ℤ) → Type 0
DifferBetween m d [] [] [] = Unit {0}
DifferBetween m d (bounds ∷ steps) (X ∷ Xs) (Y ∷ Ys) = DifferLess m bounds d X Y × DifferBetween m d steps Xs Ys
DifferBetween m d steps Xs Ys = ⊥

-- The history Xs over d solves some choices between a and b.
pub record IsHistoryBetween (a b : FlowModel) (d : ℕ) (Xs : List (ℕ → ℤ)) : Type 0 where
  pub start : ℕ → Fraction
  pub choices : List Choice
  pub between : AreChoices a b start choices
  pub solves : SolvesChoices a start choices d Xs

-- Each of the two is a history between two decks, the second one with the plan's wells.
abbrev pub PairsAreHistories : Type 0
PairsAreHistories =
    (a b : FlowModel) (plan : List (List Entry)) (d : ℕ) (Xs Ys : List (ℕ → ℤ)) → IsModel a → IsModel (with_plan plan a) →
    length plan ≡ length a.periods → SolvesPairs (two a b) plan d Xs Ys → IsHistoryBetween a b d Xs ×
    IsHistoryBetween (with_plan plan a) (with_plan plan b) d Ys

-- Where both pairs of decks have all their steps, each choice between has one history of each plan.
abbrev pub PairsHaveOne : Type 0
PairsHaveOne =
    (limits : Limits) (a b : FlowModel) (plan : List (List Entry)) (s : ℕ) (kind other : PairKind) (xs ys : List Solved) → AreAllSteps limits a b s kind xs →
    AreAllSteps limits (with_plan plan a) (with_plan plan b) s other ys → ChoicesHaveOne a b × ChoicesHaveOne (with_plan plan a) (with_plan plan b)
