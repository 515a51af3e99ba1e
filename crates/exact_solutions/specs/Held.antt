-- What holds the heads of a problem on the high side: from each cell links lead to one that can always let more water out.
use Rattle.std.specs.Prelude.{ℕ, ◌<◌, ◌⊎◌, List, length, Contains, ℤ, ◌≡◌, [], All, Bool, true, pos, ◌∷◌, neg_ℤ, ◌-ℤ◌}
use Rattle.step_problem.specs.{declared.entry.River.River, declared.entry.Drain.Drain, Entries.Entries, entries_at, IsProblem}
use Rattle.step_problem.specs.{declared.entry.FlowKind.TheVariants.Wells}
use Rattle.cell_balance.specs.{LeadsTo, IsAnchored, IsHeldBelow, ExactCell, cell_at, AreLinked, share, SolvesStep, EnclosesStep, IsClosed, total_inside}
use Rattle.cell_balance.specs.{deep_flow, one}
use Rattle.decimal_input.specs.{Fractions.Same, Fractions.AtMost, whole}

-- A cell that is anchored above: a fixed link, a river or a drain of it certainly conducts.
-- (An evapotranspiration doesn't count: it takes no more than its full rate.)
abbrev pub IsAnchoredAbove : List Entries → ℕ → Type 0
IsAnchoredAbove p c =
    IsAnchored p c
    ⊎ (((x : River) × Contains (entries_at p c).rivers x × (0 < x.lo))
    ⊎ ((x : Drain) × Contains (entries_at p c).drains x × (0 < x.lo)))

-- From each cell of the problem links lead to one that is anchored above.
abbrev pub IsHeldAbove : List Entries → Type 0
IsHeldAbove p = (c : ℕ) → c < length p → (j : ℕ) × (k : ℕ) × LeadsTo p j c k × IsAnchoredAbove p k

-- How many solutions an exact step has. Heads are whole numerators over one denominator, by the index of the variable cell.
-- Some heads solve the step.
abbrev pub HasSolution : List ExactCell → Type 0
HasSolution e = (d : ℕ) × (X : ℕ → ℤ) × (0 < d) × SolvesStep e d X

-- No heads solve it.
abbrev pub HasNoSolution : List ExactCell → Type 0
HasNoSolution e = (d : ℕ) (X : ℕ → ℤ) → 0 < d → SolvesStep e d X → ⊥

-- Any two solutions are the same numbers at each variable cell.
abbrev pub HasAtMostOne : List ExactCell → Type 0
HasAtMostOne e =
    (d k : ℕ) (X Y : ℕ → ℤ) → 0 < d → 0 < k → SolvesStep e d X → SolvesStep e k Y →
    (c : ℕ) → c < length e → Same (share d (X c)) (share k (Y c))

-- With each solution there is another one, which differs from it at a variable cell: so there is none, or there are many.
abbrev pub HasNoneOrMany : List ExactCell → Type 0
HasNoneOrMany e =
    (d : ℕ) (X : ℕ → ℤ) → 0 < d → SolvesStep e d X →
    (k : ℕ) × (Y : ℕ → ℤ) × (0 < k) × SolvesStep e k Y × (c : ℕ) × (c < length e) × (Same (share d (X c)) (share k (Y c)) → ⊥)

-- Steps whose heads are held have a solution, and one alone.
-- A problem whose components are held below (each anchored or carried) and above: each exact step that it encloses has a solution.
abbrev pub HeldHaveASolution : Type 0
HeldHaveASolution =
    (p : List Entries) → IsProblem p → IsHeldBelow p → IsHeldAbove p → (s : ℕ) (e : List ExactCell) → EnclosesStep s p e → HasSolution e

-- A problem whose components are held below: each exact step that it encloses has at most one.
abbrev pub HeldHaveAtMostOne : Type 0
HeldHaveAtMostOne =
    (p : List Entries) → IsProblem p → IsHeldBelow p → (s : ℕ) (e : List ExactCell) → EnclosesStep s p e → HasAtMostOne e

-- Cells of an exact step that nothing holds.
-- A set of cells that no link leaves, with a member, without a known head that conducts and without evapotranspiration.
pub record HasNoKnownHead (e : List ExactCell) (inside : ℕ → Bool) : Type 0 where
  pub closed : IsClosed e inside
  pub member : (c : ℕ) × (c < length e) × (inside c ≡ true)
  pub fixed : (c : ℕ) → c < length e → inside c ≡ true → All (λ x. x.conductance.num ≡ 0) (cell_at e c).fixed
  pub evaps : (c : ℕ) → c < length e → inside c ≡ true → (cell_at e c).evaps ≡ []

-- And without a river or a drain that conducts.
pub record HasNothingThatHolds (e : List ExactCell) (inside : ℕ → Bool) : Type 0 where
  pub loose : HasNoKnownHead e inside
  pub rivers : (c : ℕ) → c < length e → inside c ≡ true → All (λ x. x.conductance.num ≡ 0) (cell_at e c).rivers
  pub drains : (c : ℕ) → c < length e → inside c ≡ true → All (λ x. x.conductance.num ≡ 0) (cell_at e c).drains

-- Without evapotranspiration what holds a step's heads is needed too: steps with cells that nothing holds have no solution or many.
-- Cells that nothing holds, and whose deep flows sum to at most 0.
abbrev pub DrainedHaveAnother : Type 0
DrainedHaveAnother =
    (e : List ExactCell) (inside : ℕ → Bool) → AreLinked e → HasNoKnownHead e inside →
    AtMost (total_inside (length e) inside (λ c. deep_flow (cell_at e c))) (whole (pos 0)) → HasNoneOrMany e

-- Cells that nothing holds, and where no river or drain conducts.
abbrev pub AfloatHaveAnother : Type 0
AfloatHaveAnother = (e : List ExactCell) (inside : ℕ → Bool) → AreLinked e → HasNothingThatHolds e inside → HasNoneOrMany e

-- Steps that are solved by hand. Lengths in metres; every conductance is 1.
-- One cell with a river of stage 5 and bottom 0, and a well that takes `taken`. The river gives 5 - head, and below its bottom its deep flow of 5.
abbrev pub river_and_well : ℕ → List ExactCell
river_and_well taken = record {
  id = 0;
  flows = record { kind = Wells; flow = whole (neg_ℤ (pos taken)) } ∷ [];
  links = [];
  fixed = [];
  rivers = record { conductance = one; stage = whole (pos 5); bottom = whole (pos 0) } ∷ [];
  drains = [];
  evaps = [];
} ∷ []

-- a cell with a branch to the cell of this index, and nothing else
abbrev pub linked_to : ℕ → ℕ → ExactCell
linked_to id other = record { id = id; flows = []; links = record { cell = other; conductance = one } ∷ []; fixed = []; rivers = []; drains = []; evaps = [] }

-- Two cells, a branch between them, and no stress.
abbrev pub two_cells : List ExactCell
two_cells = linked_to 0 1 ∷ linked_to 1 0 ∷ []

-- How many solutions the worked steps have.
-- The well takes more than the river's deep flow: no heads are a solution.
abbrev pub WellPastDeepFlow : Type 0
WellPastDeepFlow = (taken : ℕ) → 5 < taken → HasNoSolution (river_and_well taken)

-- It takes less: the stage less what it takes is a solution, and the only one.
abbrev pub WellWithinDeepFlow : Type 0
WellWithinDeepFlow = (taken : ℕ) → taken < 5 → SolvesStep (river_and_well taken) 1 (λ c. pos 5 -ℤ pos taken) × HasAtMostOne (river_and_well taken)

-- It takes just the deep flow: there are many.
abbrev pub WellOfDeepFlow : Type 0
WellOfDeepFlow = HasSolution (river_and_well 5) × HasNoneOrMany (river_and_well 5)

-- Two cells without a stress have many.
abbrev pub TwoLooseCells : Type 0
TwoLooseCells = HasSolution two_cells × HasNoneOrMany two_cells
