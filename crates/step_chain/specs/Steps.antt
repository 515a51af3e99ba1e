-- A time step of one deck, or of two: its problem, from the heads before it, its barrier, its settled pair, and the heads of all cells; or why it has none.
use Rattle.std.specs.Prelude.{ℕ, ◌⊎◌, List, ℤ, [], ◌∷◌, Some, ◌≡◌, ◌<◌, true, false, length}
use Rattle.step_problem.specs.{declared.heads.Bound.Bound, declared.place.NoBound.NoBound, Entries.Entries, Edges, lower_at, upper_at, IsCertificate}
use Rattle.step_problem.specs.{RoundsSettleBoth, no_bound, PairKind, AreSettled, IsPairOf, settled}
use Rattle.certificate_check.specs.{IsRangeRefusal}
use Rattle.model_types.specs.{declared.limits.Limits.Limits, declared.limits.Limits.TheVariants.Plain, declared.limits.Limits.TheVariants.Wide}
use Rattle.model_types.specs.{declared.time_steps.TimeStep.TimeStep, declared.model.FlowModel.FlowModel, times, cell_count, is_active, is_variable, is_constant}
use Rattle.model_types.specs.{index_of}
use Rattle.deck_problems.specs.{declared.decks.Decks.Decks, IsProblemFor, HasNoProblemFor, AreDecks, AreStartHeadsFor, IsConstantPairFor, EachChoice, IsBefore}
use Rattle.step_chain.specs.declared.solved.Solved.{Solved}
use Rattle.step_chain.specs.Enclosing.{IsBarrierBy, HasNoBarrier, edges_by, LiesWithin, EnclosesMoves}
use Rattle.problem_builder.specs.{AreGridHeads, bound_at}
use Rattle.decimal_input.specs.{Fraction}
use Rattle.deck_span.specs.{AreChoices, Choice, SolvesChoices}

-- The heads of all cells of the grid at the end of a step, from those of its variable cells.
-- One bound for each cell of the grid, by cell number: a variable cell has that of its index, a constant-head cell
-- that of its head at this time, or the hull of both decks' ones, a cell without flow zeros.
pub record AreHeadsOf (d : Decks) (at : TimeStep) (bounds heads : List Bound) : Type 0 where
  pub whole : length heads ≡ cell_count d.first.grid
  pub variable : (c : ℕ) → c < cell_count d.first.grid → is_variable d.first at.period c ≡ true →
      bound_at heads c ≡ bound_at bounds (index_of d.first at.period c)
  pub constant : (c : ℕ) → c < cell_count d.first.grid → is_constant d.first at.period c ≡ true → IsConstantPairFor d at c (lower_at heads c) (upper_at heads c)
  pub no_flow : (c : ℕ) → c < cell_count d.first.grid → is_active d.first c ≡ false → bound_at heads c ≡ no_bound

-- A step of decks with s digits of conductances, by these limits, where `old` are the heads of all cells before it.
module _ (limits : Limits) (d : Decks) (s : ℕ) (at : TimeStep) (old : List Bound) where
  -- p is its problem, and b the problem's barrier
  pub record IsPosed (p : List Entries) (b : Edges) : Type 0 where
    pub problem : IsProblemFor d s at old p
    pub barrier : IsBarrierBy limits p b

  -- x is its problem, a pair of this kind over the problem's barrier, which is a certificate, and the heads of all cells by that pair
  pub record IsStepBy (kind : PairKind) (x : Solved) : Type 0 where
    pub barrier : Edges
    pub posed : IsPosed x.problem barrier
    pub pair : IsPairOf x.problem kind (edges_by limits barrier) x.bounds
    pub certificate : IsCertificate x.problem barrier (lower_at x.bounds) (upper_at x.bounds)
    pub heads : AreHeadsOf d at x.bounds x.heads

  abbrev pub IsSettledStep : Solved → Type 0
  IsSettledStep x = IsStepBy settled x

  -- It has this refusal before it is settled: it has no problem, or its problem no barrier.
  abbrev pub HasNoPose : NoBound → Type 0
  HasNoPose n = HasNoProblemFor d s at old n ⊎ ((p : List Entries) × IsProblemFor d s at old p × HasNoBarrier limits p n)

  -- Its settled pair is no certificate over its barrier: a head can't leave the end of the range of heads.
  pub record LeavesRange (n : NoBound) : Type 0 where
    pub problem : List Entries
    pub barrier : Edges
    pub posed : IsPosed problem barrier
    pub bounds : List Bound
    pub pair : AreSettled problem (edges_by limits barrier) bounds
    pub refused : IsRangeRefusal problem barrier bounds n

  -- this many plain rounds settle it
  abbrev pub SettlesIn : ℕ → Type 0
  SettlesIn rounds = (p : List Entries) (b : Edges) → IsPosed p b → RoundsSettleBoth p (edges_by limits b) rounds

-- It has this refusal. With plain limits every settled pair is a certificate.
abbrev pub HasNoHeads : Limits → Decks → ℕ → TimeStep → List Bound → NoBound → Type 0
HasNoHeads Plain d s at old n = HasNoPose Plain d s at old n
HasNoHeads Wide d s at old n = HasNoPose Wide d s at old n ⊎ LeavesRange Wide d s at old n

abbrev pub two : FlowModel → FlowModel → Decks
two a b = record { first = a; second = Some b }

-- steps in turn, by these limits, each from the heads of the step before
abbrev pub AreSteps : Limits → Decks → ℕ → PairKind → List Bound → List TimeStep → List Solved → Type 0
AreSteps limits d s kind old [] [] = Unit {0}
AreSteps limits d s kind old (at ∷ ats) (x ∷ xs) = IsStepBy limits d s at old kind x × AreSteps limits d s kind x.heads ats xs
AreSteps limits d s kind old [] (x ∷ xs) = ⊥
AreSteps limits d s kind old (at ∷ ats) [] = ⊥

-- all steps of two decks that are alike
pub record AreAllSteps (limits : Limits) (a b : FlowModel) (s : ℕ) (kind : PairKind) (xs : List Solved) : Type 0 where
  pub decks : AreDecks (two a b)
  pub start : List Bound
  pub is_start : AreStartHeadsFor (two a b) start
  pub steps : AreSteps limits (two a b) s kind start (times a) xs

-- each vector over d lies within the heads of its step
abbrev pub LieWithin : FlowModel → ℕ → List Solved → List (ℕ → ℤ) → Type 0
LieWithin a d [] [] = Unit {0}
LieWithin a d (x ∷ xs) (X ∷ Xs) = LiesWithin a x.heads d X × LieWithin a d xs Xs
LieWithin a d [] (X ∷ Xs) = ⊥
LieWithin a d (x ∷ xs) [] = ⊥

-- Laws of the steps of decks: a time has one step, or one refusal, from the heads before it.
-- there is at most one settled step
abbrev pub StepIsOne : Type 0
StepIsOne =
    (limits : Limits) (d : Decks) (s : ℕ) (at : TimeStep) (old : List Bound) (x y : Solved) → IsBefore d at old →
    IsSettledStep limits d s at old x → IsSettledStep limits d s at old y → x ≡ y

-- A time with a settled step has no refusal. With plain limits no time with a step of either kind has one; with wide limits the settled pair may stand
-- at the end of the range of heads beside a certificate.
abbrev pub StepExcludesRefusal : Type 0
StepExcludesRefusal =
    (limits : Limits) (d : Decks) (s : ℕ) (at : TimeStep) (old : List Bound) (kind : PairKind) (x : Solved) (n : NoBound) → IsBefore d at old →
    (limits ≡ Plain) ⊎ (kind ≡ settled) → IsStepBy limits d s at old kind x → HasNoHeads limits d s at old n → ⊥

-- a step has at most one refusal
abbrev pub RefusalIsOne : Type 0
RefusalIsOne =
    (limits : Limits) (d : Decks) (s : ℕ) (at : TimeStep) (old : List Bound) (a b : NoBound) → IsBefore d at old →
    HasNoHeads limits d s at old a → HasNoHeads limits d s at old b → a ≡ b

-- the heads of a step are heads of all cells, in range
abbrev pub HeadsFit : Type 0
HeadsFit =
    (limits : Limits) (d : Decks) (s : ℕ) (at : TimeStep) (old : List Bound) (kind : PairKind) (x : Solved) → IsBefore d at old →
    IsStepBy limits d s at old kind x → AreGridHeads d.first x.heads

-- from all exact heads within the old ones, every solution of each choice lies within the heads of the step
abbrev pub StepEncloses : Type 0
StepEncloses =
    (limits : Limits) (d : Decks) (s : ℕ) (at : TimeStep) (old : List Bound) (kind : PairKind) (x : Solved) → IsBefore d at old →
    IsStepBy limits d s at old kind x → EachChoice d at (λ y. EnclosesMoves d.first s at y old x)

-- a step by plain limits is one by wide limits
abbrev pub WideKeepsSteps : Type 0
WideKeepsSteps =
    (d : Decks) (s : ℕ) (at : TimeStep) (old : List Bound) (kind : PairKind) (x : Solved) →
    IsStepBy Plain d s at old kind x → IsStepBy Wide d s at old kind x

-- every history of choices between the two lies within the heads of all steps
abbrev pub HistoriesLieWithin : Type 0
HistoriesLieWithin =
    (limits : Limits) (a b : FlowModel) (s : ℕ) (kind : PairKind) (xs : List Solved) → AreAllSteps limits a b s kind xs →
    (start : ℕ → Fraction) (ys : List Choice) → AreChoices a b start ys → (d : ℕ) (Xs : List (ℕ → ℤ)) → SolvesChoices a start ys d Xs → LieWithin a d xs Xs
