-- The problem of a step of one deck, or of two; and its laws: problems meet their conditions.
use Rattle.std.specs.Prelude.{◌≡◌, ℕ, ◌<◌, true, ℤ, List, Contains, Option, Some, None, Result, Ok, Err}
use Rattle.std.specs.Option.{option_to_list}
use Rattle.decimal_input.specs.{EnclosesSigned}
use Rattle.step_problem.specs.{declared.heads.Bound.Bound, declared.place.NoBound.NoBound, IsProblem, IsHead, Entries.Entries}
use Rattle.step_problem.specs.{declared.refusal.BoundFault.BoundFault, declared.refusal.BoundFault.TheVariants.NoBound as Refused}
use Rattle.step_problem.specs.{declared.refusal.BoundFault.TheVariants.Memory}
use Rattle.model_types.specs.{declared.model.FlowModel.FlowModel, declared.time_steps.TimeStep.TimeStep, cell_count, is_constant, times, IsModel}
use Rattle.problem_builder.specs.{AreGridHeads, IsProblemOf, problem_of, unless_refused}
use Rattle.problem_hull.specs.{AreAlike as AreProblemsAlike, cell_hull, zip_with, first_refusal}
use Rattle.deck_span.specs.{AreAlike}
use Rattle.deck_problems.specs.declared.decks.Decks.{Decks}
use Rattle.deck_problems.specs.Kept.{AreDecks, EachChoice, IsConstantPairFor, AreStartHeadsFor, EnclosesChoices, EnclosesStarts}

-- The results of two models that are alike, as one: the refusal of the first one, or of the second; or the hull of their problems, or
-- the refusal of its first cell that has a sum too large.
abbrev pub hull_or_refusal : Result (List Entries) NoBound → Result (List Entries) NoBound → Result (List Entries) NoBound
hull_or_refusal (Err n) second = Err n
hull_or_refusal (Ok p) (Err n) = Err n
hull_or_refusal (Ok p) (Ok q) = unless_refused (option_to_list (first_refusal (zip_with cell_hull p q))) (zip_with cell_hull p q)

-- The problem of a time step of one model or of two, with s digits of conductances, where `old` are the heads of all cells before it;
-- or its refusal.
abbrev pub problem_by : FlowModel → Option FlowModel → ℕ → TimeStep → List Bound → Result (List Entries) NoBound
problem_by a None s at old = problem_of a s at old
problem_by a (Some b) s at old = hull_or_refusal (problem_of a s at old) (problem_of b s at old)

abbrev pub IsProblemBy : FlowModel → Option FlowModel → ℕ → TimeStep → List Bound → List Entries → Type 0
IsProblemBy a o s at old p = problem_by a o s at old ≡ Ok p

-- A step of decks.
module _ (d : Decks) (s : ℕ) (at : TimeStep) (old : List Bound) where
  -- p is the problem of the one deck, or the hull of both decks' problems
  abbrev pub IsProblemFor : List Entries → Type 0
  IsProblemFor p = IsProblemBy d.first d.second s at old p

  -- it has none, but this refusal
  abbrev pub HasNoProblemFor : NoBound → Type 0
  HasNoProblemFor n = problem_by d.first d.second s at old ≡ Err n

  -- lack of memory is possible at any time
  abbrev pub IsFaultFor : BoundFault → Type 0
  IsFaultFor (Refused n) = HasNoProblemFor n
  IsFaultFor Memory = Unit {0}

-- the problems of two models that are alike are alike, so that they have a hull
abbrev pub ProblemsAreAlike : Type 0
ProblemsAreAlike =
    (a b : FlowModel) (s : ℕ) (at : TimeStep) (old : List Bound) (p q : List Entries) → IsModel a → AreAlike a b →
    IsProblemOf a s at old p → IsProblemOf b s at old q → AreProblemsAlike p q

-- decks that meet their conditions, a time of theirs, and heads of all cells before it
pub record IsBefore (d : Decks) (at : TimeStep) (old : List Bound) : Type 0 where
  pub decks : AreDecks d
  pub time : Contains (times d.first) at
  pub heads : AreGridHeads d.first old

-- a problem meets the conditions on problems
abbrev pub ProblemFits : Type 0
ProblemFits = (d : Decks) (s : ℕ) (at : TimeStep) (old : List Bound) (p : List Entries) → IsBefore d at old → IsProblemFor d s at old p → IsProblem p

-- from all exact heads within the old ones, it encloses each choice of the step
abbrev pub ProblemEncloses : Type 0
ProblemEncloses =
    (d : Decks) (s : ℕ) (at : TimeStep) (old : List Bound) (p : List Entries) → IsBefore d at old → IsProblemFor d s at old p →
    EnclosesChoices d s at old p

-- A constant-head cell has one pair at a time, of heads in range, and it encloses the head of each choice.
module _ (d : Decks) (at : TimeStep) (c : ℕ) where
  pub record IsConstantCell : Type 0 where
    pub decks : AreDecks d
    pub time : Contains (times d.first) at
    pub within : c < cell_count d.first.grid
    pub constant : is_constant d.first at.period c ≡ true

abbrev pub ConstantPairIsOne : Type 0
ConstantPairIsOne =
    (d : Decks) (at : TimeStep) (c : ℕ) (lo hi low high : ℤ) → IsConstantCell d at c → IsConstantPairFor d at c lo hi →
    IsConstantPairFor d at c low high → (lo ≡ low) × (hi ≡ high)

abbrev pub ConstantPairFits : Type 0
ConstantPairFits = (d : Decks) (at : TimeStep) (c : ℕ) (lo hi : ℤ) → IsConstantCell d at c → IsConstantPairFor d at c lo hi → IsHead lo × IsHead hi

abbrev pub ConstantPairEncloses : Type 0
ConstantPairEncloses =
    (d : Decks) (at : TimeStep) (c : ℕ) (lo hi : ℤ) → IsConstantCell d at c → IsConstantPairFor d at c lo hi →
    EachChoice d at (λ x. EnclosesSigned lo hi 9 (x.heads c))

-- the bounds of the starting heads are one list, of heads in range, and enclose all starting heads of the decks
abbrev pub StartHeadsAreOne : Type 0
StartHeadsAreOne = (d : Decks) (x y : List Bound) → AreDecks d → AreStartHeadsFor d x → AreStartHeadsFor d y → x ≡ y

abbrev pub StartHeadsFit : Type 0
StartHeadsFit = (d : Decks) (x : List Bound) → AreDecks d → AreStartHeadsFor d x → AreGridHeads d.first x

abbrev pub StartHeadsEnclose : Type 0
StartHeadsEnclose = (d : Decks) (x : List Bound) → AreDecks d → AreStartHeadsFor d x → EnclosesStarts d x
