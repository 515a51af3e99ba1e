-- That a model has a history of heads that solves its exact equations, and when two histories are the same.
use Rattle.std.specs.Prelude.{ℕ, ℤ, List, Bool, Option, map, Some, None}
use Rattle.std.specs.List.{AllZip}
use Rattle.decimal_input.specs.{Fraction, Fractions.Same}
use Rattle.model_types.specs.{declared.model.FlowModel.FlowModel, declared.limits.Limits.Limits, IsModel, times, start_head}
use Rattle.flow_equations.specs.{heads_of, Solves}
use Rattle.problem_builder.specs.{IsActive}
use Rattle.listing_run.specs.{declared.solving.Step.Step, declared.text.ListingEnd.TheVariants.Whole, AllSteps, one_task}
use Rattle.deck_span.specs.{AreChoices, Choice, IsBetween, SolvesChoices, own_choice}
use Rattle.step_chain.specs.{declared.solved.Solved.Solved, AreAllSteps}
use Rattle.step_problem.specs.{PairKind}
use Rattle.deck_problems.specs.declared.decks.Decks.{Decks}

-- A history of heads, over some denominator, solves the model's exact equations.
abbrev pub HasHistory : FlowModel → Type 0
HasHistory m = (d : ℕ) × (history : List (ℕ → ℤ)) × Solves m d history

-- Two vectors are the same heads at all active cells. (The head of an inactive cell means nothing.)
abbrev pub AreSameHeads : FlowModel → (ℕ → Fraction) → (ℕ → Fraction) → Type 0
AreSameHeads m f g = (c : ℕ) → IsActive m c → Same (f c) (g c)

-- Two histories, over d and over e, are the same heads, step by step.
abbrev pub AreSame : FlowModel → ℕ → ℕ → List (ℕ → ℤ) → List (ℕ → ℤ) → Type 0
AreSame m d e = AllZip (λ X Y. AreSameHeads m (heads_of d X) (heads_of e Y))

-- The model has exactly one history.
pub record HasOneHistory (m : FlowModel) : Type 0 where
  pub solvable : HasHistory m
  pub one : (d e : ℕ) (history other : List (ℕ → ℤ)) → Solves m d history → Solves m e other → AreSame m d e history other

-- What a whole run says of the exact equations of its model: they have a solution, and one alone.
-- Where all time steps of a task of one deck have heads, its model has a history.
abbrev pub RunsHaveAHistory : Type 0
RunsHaveAHistory =
    (limits : Limits) (m : FlowModel) (s : ℕ) (zones : Option (List ℕ)) (rounds : ℕ) (quick : Bool) (values : List Step) → IsModel m →
    AllSteps (one_task limits m s zones rounds quick) values Whole → HasHistory m

-- And one alone.
abbrev pub RunsHaveOneHistory : Type 0
RunsHaveOneHistory =
    (limits : Limits) (m : FlowModel) (s : ℕ) (zones : Option (List ℕ)) (rounds : ℕ) (quick : Bool) (values : List Step) → IsModel m →
    AllSteps (one_task limits m s zones rounds quick) values Whole →
    (d e : ℕ) (Xs Ys : List (ℕ → ℤ)) → Solves m d Xs → Solves m e Ys → AreSame m d e Xs Ys

-- Histories of choices between two models.
-- each choice has a history, and two of its histories are the same heads at all active cells, step by step
pub record ChoicesHaveOne (a b : FlowModel) : Type 0 where
  pub solvable : (start : ℕ → Fraction) (xs : List Choice) → AreChoices a b start xs → (d : ℕ) × (Xs : List (ℕ → ℤ)) × SolvesChoices a start xs d Xs
  pub one : (start : ℕ → Fraction) (xs : List Choice) → AreChoices a b start xs → (d e : ℕ) (Xs Ys : List (ℕ → ℤ)) →
      SolvesChoices a start xs d Xs → SolvesChoices a start xs e Ys → AreSame a d e Xs Ys

-- so it is where two decks have all their steps
abbrev pub ChoicesHaveOneHistory : Type 0
ChoicesHaveOneHistory =
    (limits : Limits) (a b : FlowModel) (s : ℕ) (kind : PairKind) (xs : List Solved) → AreAllSteps limits a b s kind xs → ChoicesHaveOne a b

-- STRT and the time steps of m are choices between a and b, and a history that solves m solves these choices.
pub record IsChosen (a m b : FlowModel) : Type 0 where
  pub are : AreChoices a b (start_head m) (map (own_choice m) (times a))
  pub solves : (d : ℕ) (Xs : List (ℕ → ℤ)) → Solves m d Xs → SolvesChoices a (start_head m) (map (own_choice m) (times a)) d Xs

-- So it is for a model between two models: nothing that lies between the decks is left out.
abbrev pub ModelsAreChosen : Type 0
ModelsAreChosen = (a m b : FlowModel) → IsModel a → IsBetween a m b → IsChosen a m b

-- the model of one deck has exactly one history, or so has each choice between two
abbrev pub HaveOneBy : FlowModel → Option FlowModel → Type 0
HaveOneBy a None = HasOneHistory a
HaveOneBy a (Some b) = ChoicesHaveOne a b

abbrev pub HaveOneHistory : Decks → Type 0
HaveOneHistory d = HaveOneBy d.first d.second
