-- Histories in which the numbers of each time step's equations lie anywhere between those of two models, chosen anew at each step. They are
-- any fractions.
use Rattle.std.specs.Prelude.{◌≡◌, ℕ, ◌<◌, true, ℤ, List, [], ◌∷◌, map}
use Rattle.std.specs.List.{AllZip}
use Rattle.decimal_input.specs.{Fraction, IsOver}
use Rattle.step_problem.specs.{declared.entry.FixedKind.FixedKind, declared.entry.FixedKind.TheVariants.Storage}
use Rattle.model_types.specs.{declared.model.FlowModel.FlowModel, declared.time_steps.TimeStep.TimeStep, cell_count, constant_head, is_constant, start_head}
use Rattle.model_types.specs.{times}
use Rattle.cell_balance.specs.{ExactCell, ExactFixed, SolvesStep}
use Rattle.flow_equations.specs.{exact_step, heads_of, variable_heads}
use Rattle.deck_span.specs.Steps.{IsFractionBetween, IsStepBetween}

-- The numbers of a time step's equations: the heads of its constant-head cells, and all that flows into each variable cell.
pub record Choice : Type 0 where
  pub heads : ℕ → Fraction
  pub cells : List ExactCell

-- The head of a branch to a known head: that of storage is the cell's own head at the end of the step before (TM 6-A16, chapter 2).
abbrev pub head_from : FixedKind → Fraction → Fraction → Fraction
head_from Storage old head = old
head_from kind old head = head

-- a step's equations with these heads before it
abbrev pub fixed_from : Fraction → ExactFixed → ExactFixed
fixed_from old b = record b { head = head_from b.kind old b.head }

abbrev pub cell_from : (ℕ → Fraction) → ExactCell → ExactCell
cell_from old x = record x { fixed = map (fixed_from (old x.id)) x.fixed }

abbrev pub step_from : (ℕ → Fraction) → List ExactCell → List ExactCell
step_from old cells = map (cell_from old) cells

-- a choice for a time step of two models: each number lies between those of the two at its place, whatever the heads before
pub record IsChoiceBetween (a b : FlowModel) (at : TimeStep) (x : Choice) : Type 0 where
  pub heads : (c : ℕ) → c < cell_count a.grid → is_constant a at.period c ≡ true →
      IsFractionBetween (constant_head a at.period at.step c) (x.heads c) (constant_head b at.period at.step c)
  pub cells : (old : ℕ → Fraction) → IsStepBetween (exact_step a at.period at.step old) (step_from old x.cells) (exact_step b at.period at.step old)

-- a starting head for each cell, between the two STRT, and a choice for each time step
pub record AreChoices (a b : FlowModel) (start : ℕ → Fraction) (xs : List Choice) : Type 0 where
  pub starts : (c : ℕ) → IsFractionBetween (start_head a c) (start c) (start_head b c)
  pub steps : AllZip (IsChoiceBetween a b) (times a) xs

-- X over d solves the chosen equations of a time step of a, where the heads of the step before are `old`: each constant-head cell has its
-- head, and the balance of each variable cell is zero.
pub record SolvesChoiceAt (a : FlowModel) (at : TimeStep) (x : Choice) (old : ℕ → Fraction) (d : ℕ) (X : ℕ → ℤ) : Type 0 where
  pub constant : (c : ℕ) → c < cell_count a.grid → is_constant a at.period c ≡ true → IsOver d (x.heads c) (X c)
  pub balances : SolvesStep (step_from old x.cells) d (variable_heads (step_from old x.cells) X)

-- one vector for each of these time steps and choices, each from the heads of the vector before
abbrev pub SolvesChoicesFrom : FlowModel → ℕ → (ℕ → Fraction) → List TimeStep → List Choice → List (ℕ → ℤ) → Type 0
SolvesChoicesFrom a d old [] [] [] = Unit {0}
SolvesChoicesFrom a d old (at ∷ ats) (x ∷ xs) (X ∷ Xs) = SolvesChoiceAt a at x old d X × SolvesChoicesFrom a d (heads_of d X) ats xs Xs
SolvesChoicesFrom a d old ats xs Xs = ⊥

-- The history Xs over d solves the choices in turn, from these starting heads; d is above 0.
pub record SolvesChoices (a : FlowModel) (start : ℕ → Fraction) (xs : List Choice) (d : ℕ) (Xs : List (ℕ → ℤ)) : Type 0 where
  pub some : 0 < d
  pub steps : SolvesChoicesFrom a d start (times a) xs Xs
