-- Which models, exact steps and choices lie between two others, and what the hull of two problems encloses.
use Rattle.std.specs.Prelude.{◌≡◌, ℕ, ◌≤◌, ℤ, List}
use Rattle.decimal_input.specs.{number, Fraction, Fractions.AtMost}
use Rattle.cell_balance.specs.{ExactCell, EnclosesStep}
use Rattle.problem_hull.specs.{IsHull}
use Rattle.step_problem.specs.Entries.{Entries}
use Rattle.model_types.specs.declared.entry.Given.{Given}
use Rattle.model_types.specs.{declared.model.FlowModel.FlowModel, declared.time_steps.TimeStep.TimeStep, constant_head, period_at, start_head, IsModel}
use Rattle.flow_equations.specs.{exact_step, SolvesAt}
use Rattle.deck_span.specs.{Steps.LiesBetween, Steps.IsStepBetween, Models.IsBetween, Models.IsGivenBetween, Alike.AreAlike, Choices.Choice}
use Rattle.deck_span.specs.{Choices.IsChoiceBetween, Choices.SolvesChoiceAt}

-- Where p encloses the exact step a, and q the exact step b, their hull encloses each exact step between a and b.
abbrev pub HullsEnclose : Type 0
HullsEnclose =
    (s : ℕ) (p q r : List Entries) (a m b : List ExactCell) → IsHull p q r → EnclosesStep s p a → EnclosesStep s q b →
    IsStepBetween a m b → EnclosesStep s r m

-- Where m lies between a and b, each exact step n of period p of m lies between those of a and b from the same heads.
abbrev pub StepsLieBetween : Type 0
StepsLieBetween =
    (a m b : FlowModel) (p n : ℕ) (old : ℕ → Fraction) → IsModel a → n ≤ (period_at a p).nstp → IsBetween a m b →
    IsStepBetween (exact_step a p n old) (exact_step m p n old) (exact_step b p n old)

-- Each of two models that are alike lies between the two.
abbrev pub AlikeLieBetween : Type 0
AlikeLieBetween = (a b : FlowModel) → AreAlike a b → IsBetween a a b × IsBetween a b b

-- Where some model lies between two models, the two are alike.
abbrev pub BetweenAreAlike : Type 0
BetweenAreAlike = (a m b : FlowModel) → IsBetween a m b → AreAlike a b

-- Entries of CHD: both heads of one are at most those of the other.
pub record IsGivenAtMost (a b : Given) : Type 0 where
  pub start : AtMost (number a.shead) (number b.shead)
  pub end : AtMost (number a.ehead) (number b.ehead)

-- Where both heads of an entry of CHD lie between those of two others, in one order, so does its head at each part of the period.
abbrev pub OrderedHeadsLieBetween : Type 0
OrderedHeadsLieBetween = (a m b : Given) → m.cell ≡ a.cell → b.cell ≡ a.cell → LiesBetween IsGivenAtMost a m b → IsGivenBetween a m b

-- what a model gives as the choice for a time step
abbrev pub own_choice : FlowModel → TimeStep → Choice
own_choice m at = record { heads = constant_head m at.period at.step; cells = exact_step m at.period at.step (start_head m) }

-- A model between two others gives a choice between them for each time step, and what solves the model then solves the choice.
abbrev pub ModelsGiveChoices : Type 0
ModelsGiveChoices =
    (a m b : FlowModel) (at : TimeStep) → IsModel a → at.step ≤ (period_at a at.period).nstp → IsBetween a m b → IsChoiceBetween a b at (own_choice m at)

abbrev pub ModelsSolveChoices : Type 0
ModelsSolveChoices =
    (a m b : FlowModel) (at : TimeStep) (old : ℕ → Fraction) (d : ℕ) (X : ℕ → ℤ) → IsBetween a m b → SolvesAt m at old d X →
    SolvesChoiceAt a at (own_choice m at) old d X
