-- The tables that a run keeps from step to step.
use Rattle.std.specs.Prelude.{◌≡◌, ℕ, ◌<◌, List, length, map, ℤ, true, false, Option, Some, None, IfSome}
use Rattle.model_types.specs.{declared.model.FlowModel.FlowModel, given_heads, variable_cells, cell_count, constant_head, is_constant, start_head, IsModel}
use Rattle.model_types.specs.{declared.time_steps.TimeStep.TimeStep}
use Rattle.problem_builder.specs.{AreTables, ArePeriodTables, AreEvenStorages, BothOrNone, AreConstantHeads, HeadsEnclose, IsActive, IsProblemOf}
use Rattle.problem_builder.specs.{IsConstantPair, AreStartHeads, bound_at, Filled, each_cell, start_bound, constant_bound, IsCellNamed}
use Rattle.deck_problems.specs.{declared.decks.Decks.Decks, declared.kept.RunTables.RunTables, declared.problem.DeckTables.DeckTables}
use Rattle.deck_problems.specs.{declared.problem.DeckProblem.DeckProblem}
use Rattle.decimal_input.specs.{Fraction}
use Rattle.step_problem.specs.{declared.heads.Bound.Bound, Entries.Entries, declared.refusal.BoundFault.BoundFault}
use Rattle.step_problem.specs.{declared.refusal.BoundFault.TheVariants.NoBound as Refused, declared.refusal.BoundFault.TheVariants.Memory, no_bound}
use Rattle.cell_balance.specs.{EnclosesStep}
use Rattle.flow_equations.specs.{exact_step}
use Rattle.problem_hull.specs.{IsTooLarge, IsHullPair}
use Rattle.deck_span.specs.{AreAlike, Choice, IsBetween, IsChoiceBetween, IsFractionBetween, step_from}

-- the digits of conductances
abbrev pub digits_of : RunTables → ℕ
digits_of t = t.tables.digits

-- the tables of the model, of the given heads up to some period, and of the current period
pub record AreRunTables (m : FlowModel) (t : RunTables) : Type 0 where
  pub tables : AreTables m (digits_of t) t.tables
  pub given : t.given ≡ given_heads m t.given.period
  pub period : ArePeriodTables m (digits_of t) t.period.period t.period
  pub storage : AreEvenStorages m (digits_of t) t.period.period t.period.storage

-- those with s digits
pub record AreTablesOf (m : FlowModel) (s : ℕ) (t : RunTables) : Type 0 where
  pub digits : digits_of t ≡ s
  pub tables : AreRunTables m t

-- those of each deck
pub record AreDeckTables (d : Decks) (s : ℕ) (t : DeckTables) : Type 0 where
  pub first : AreTablesOf d.first s t.first
  pub second : BothOrNone (λ m r. AreTablesOf m s r) d.second t.second

-- Facts that the calls of a step's problem pass to each other.
-- p encloses the exact step of a model from all exact heads within the old ones
abbrev pub EnclosesSteps : ℕ → TimeStep → List Bound → List Entries → FlowModel → Type 0
EnclosesSteps s at old p m = (before : ℕ → Fraction) → HeadsEnclose m old before → EnclosesStep s p (exact_step m at.period at.step before)

-- p encloses the chosen equations of a step from all exact heads within the old ones, which are heads of the cells of m
abbrev pub EnclosesChoice : FlowModel → ℕ → List Bound → List Entries → Choice → Type 0
EnclosesChoice m s old p x = (before : ℕ → Fraction) → HeadsEnclose m old before → EnclosesStep s p (step_from before x.cells)

-- the variable cells of a problem are those of a model, and each cell that it names is active
pub record HasCellsOf (m : FlowModel) (at : TimeStep) (p : List Entries) : Type 0 where
  pub cells : map (λ e. e.id) p ≡ variable_cells m at.period
  pub named : (c : ℕ) → IsCellNamed p c → IsActive m c

-- the problem and the constant heads of one model
pub record IsModelProblem (m : FlowModel) (s : ℕ) (at : TimeStep) (old : List Bound) (x : DeckProblem) : Type 0 where
  pub problem : IsProblemOf m s at old x.problem
  pub constant : AreConstantHeads m at x.constant_heads
  pub cells : HasCellsOf m at x.problem
  pub encloses : EnclosesSteps s at old x.problem m

-- why two problems that are alike have no hull that is a problem
abbrev pub IsHullRefusal : List Entries → List Entries → BoundFault → Type 0
IsHullRefusal p q (Refused n) = IsTooLarge p q n
IsHullRefusal p q Memory = Unit {0}

-- The head of a constant-head cell at a time, as a whole pair in units of 10^-9: of one deck, or the hull of two decks' pairs.
-- lo and hi are the hull of the pairs that both models have
abbrev pub IsConstantHull : FlowModel → FlowModel → TimeStep → ℕ → ℤ → ℤ → Type 0
IsConstantHull a b at c lo hi =
    IsHullPair (constant_bound a at c).low (constant_bound a at c).high (constant_bound b at c).low (constant_bound b at c).high lo hi

abbrev pub IsPairOf : FlowModel → Option FlowModel → TimeStep → ℕ → ℤ → ℤ → Type 0
IsPairOf a None at c lo hi = IsConstantPair a at c lo hi
IsPairOf a (Some b) at c lo hi = IsConstantHull a b at c lo hi

-- the pair of the one deck, or that hull
abbrev pub IsConstantPairFor : Decks → TimeStep → ℕ → ℤ → ℤ → Type 0
IsConstantPairFor d at c lo hi = IsPairOf d.first d.second at c lo hi

-- the pair of cell c's head if that is constant, zeros in any other cell
pub record HasConstantHeadFor (d : Decks) (at : TimeStep) (c : ℕ) (x : Bound) : Type 0 where
  pub constant : is_constant d.first at.period c ≡ true → IsConstantPairFor d at c x.low x.high
  pub other : is_constant d.first at.period c ≡ false → x ≡ no_bound

-- for each cell of the grid
abbrev pub AreConstantHeadsFor : Decks → TimeStep → List Bound → Type 0
AreConstantHeadsFor d at heads = Filled (HasConstantHeadFor d at) no_bound (cell_count d.first.grid) heads

-- The hulls of two lists of bounds.
-- r is the hull of the bounds x and y
abbrev pub IsHullBound : Bound → Bound → Bound → Type 0
IsHullBound x y r = IsHullPair x.low x.high y.low y.high r.low r.high

-- each bound is the hull of the two bounds at its place
pub record AreHullBounds (xs ys rs : List Bound) : Type 0 where
  pub whole : length rs ≡ length xs
  pub each : (c : ℕ) → c < length xs → IsHullBound (bound_at xs c) (bound_at ys c) (bound_at rs c)

-- The bounds of the heads before the first step: those of STRT of the one deck, or the hulls of both decks' ones.
abbrev pub AreStartHulls : FlowModel → FlowModel → List Bound → Type 0
AreStartHulls a b heads = AreHullBounds (each_cell a (start_bound a)) (each_cell b (start_bound b)) heads

abbrev pub AreStartsBy : FlowModel → Option FlowModel → List Bound → Type 0
AreStartsBy a None heads = AreStartHeads a heads
AreStartsBy a (Some b) heads = AreStartHulls a b heads

abbrev pub AreStartHeadsFor : Decks → List Bound → Type 0
AreStartHeadsFor d heads = AreStartsBy d.first d.second heads

-- The decks of a run, and the models of one deck or between two.
-- the model of one deck
abbrev pub one_deck : FlowModel → Decks
one_deck m = record { first = m; second = None }

-- a valid model that is alike the first one: models lie between the two
pub record IsSecond (a b : FlowModel) : Type 0 where
  pub model : IsModel b
  pub alike : AreAlike a b

-- the conditions on decks: each model is valid, and two are alike
pub record AreDecks (d : Decks) : Type 0 where
  pub first : IsModel d.first
  pub second : IfSome d.second (IsSecond d.first)

-- m is the model of the one deck, or lies between those of the two
abbrev pub IsOf : FlowModel → Option FlowModel → FlowModel → Type 0
IsOf a None m = m ≡ a
IsOf a (Some b) m = IsBetween a m b

abbrev pub IsMember : Decks → FlowModel → Type 0
IsMember d m = IsOf d.first d.second m

-- The choices of a time step: that of one deck, or all choices between two decks.
-- the equations of m itself
pub record IsOwnChoice (m : FlowModel) (at : TimeStep) (x : Choice) : Type 0 where
  pub heads : (c : ℕ) → x.heads c ≡ constant_head m at.period at.step c
  pub cells : (old : ℕ → Fraction) → step_from old x.cells ≡ exact_step m at.period at.step old

abbrev pub IsChoiceOf : FlowModel → Option FlowModel → TimeStep → Choice → Type 0
IsChoiceOf a None at x = IsOwnChoice a at x
IsChoiceOf a (Some b) at x = IsChoiceBetween a b at x

-- P holds of each choice
abbrev pub EachChoice : Decks → TimeStep → (Choice → Type 0) → Type 0
EachChoice d at P = (x : Choice) → IsChoiceOf d.first d.second at x → P x

-- p encloses each choice of a step from all exact heads within the old ones
abbrev pub EnclosesChoices : Decks → ℕ → TimeStep → List Bound → List Entries → Type 0
EnclosesChoices d s at old p = EachChoice d at (EnclosesChoice d.first s old p)

-- The starting heads: STRT of one deck, or any heads between those of two decks.
abbrev pub IsStartOf : FlowModel → Option FlowModel → (ℕ → Fraction) → Type 0
IsStartOf a None f = f ≡ start_head a
IsStartOf a (Some b) f = (c : ℕ) → IsFractionBetween (start_head a c) (f c) (start_head b c)

-- the bounds enclose all starting heads of the decks
abbrev pub EnclosesStarts : Decks → List Bound → Type 0
EnclosesStarts d heads = (f : ℕ → Fraction) → IsStartOf d.first d.second f → HeadsEnclose d.first heads f
