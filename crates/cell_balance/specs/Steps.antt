-- The exact finite-difference equations of one time step as plain data: for each variable cell all that flows into it
-- (TM 6-A16, chapters 2, 5 and 6). Conductances, heads and flows are exact fractions, in the model's units of length
-- and time.
use Rattle.std.specs.Prelude.{ℕ, List, [], slice_index_or, ◌≡◌, ◌<◌, length, All, Contains}
use Rattle.decimal_input.specs.{Ratio, Fraction, Ratios.Same}
use Rattle.step_problem.specs.{declared.entry.FixedKind.FixedKind, declared.entry.FlowKind.FlowKind}

-- A flow that no head changes: a well, or the recharge that the cell receives (TM 6-A16, chapter 6, WEL and RCH).
pub record ExactFlow : Type 0 where
  pub kind : FlowKind
  pub flow : Fraction

-- A branch to another variable cell, named by its index, and its conductance (TM 6-A16, chapter 5, CR, CC and CV).
pub record ExactLink : Type 0 where
  pub cell : ℕ
  pub conductance : Ratio

-- A branch to a known head (TM 6-A16, chapter 2): a constant-head neighbour at its head of this step, a general head,
-- or in a transient period the cell's own head of the step before over its storage. The source is the cell number of
-- the constant-head neighbour, else the cell's own.
pub record ExactFixed : Type 0 where
  pub kind : FixedKind
  pub source : ℕ
  pub conductance : Ratio
  pub head : Fraction

-- A river: its conductance, stage and bottom (TM 6-A16, chapter 6, RIV).
pub record ExactRiver : Type 0 where
  pub conductance : Ratio
  pub stage : Fraction
  pub bottom : Fraction

-- A drain: its conductance and elevation (TM 6-A16, chapter 6, DRN).
pub record ExactDrain : Type 0 where
  pub conductance : Ratio
  pub elevation : Fraction

-- An evapotranspiration: the greatest rate over the extinction depth, as a conductance, the surface, and the
-- extinction elevation, which lies the extinction depth below it (TM 6-A16, chapter 6, EVT).
pub record ExactEvap : Type 0 where
  pub conductance : Ratio
  pub surface : Fraction
  pub extinction : Fraction

-- A variable cell: its cell number, and all that flows into it.
pub record ExactCell : Type 0 where
  pub id : ℕ
  pub flows : List ExactFlow
  pub links : List ExactLink
  pub fixed : List ExactFixed
  pub rivers : List ExactRiver
  pub drains : List ExactDrain
  pub evaps : List ExactEvap

abbrev pub no_cell : ExactCell
no_cell = record { id = 0; flows = []; links = []; fixed = []; rivers = []; drains = []; evaps = [] }

-- the cell of index c in a step
abbrev pub cell_at : List ExactCell → ℕ → ExactCell
cell_at e c = slice_index_or e c no_cell

-- The links of an exact step: a branch between two variable cells is an entry at each of them.
-- x, a link of cell c, has a link back at its other end, with the same conductance
pub record HasLinkBack (e : List ExactCell) (c : ℕ) (x : ExactLink) : Type 0 where
  pub back : ExactLink
  pub is_there : Contains (cell_at e x.cell).links back
  pub leads_back : back.cell ≡ c
  pub same : Same back.conductance x.conductance

-- the two ends of each link have the same conductance
abbrev pub HasEqualEnds : List ExactCell → Type 0
HasEqualEnds e = (c : ℕ) → c < length e → All (HasLinkBack e c) (cell_at e c).links

abbrev pub no_link : ExactLink
no_link = record { cell = 0; conductance = record { num = 0; less = 0 } }

-- The links of a step: each cell's lead to different cells of the step, and the two ends of a link have the same conductance.
pub record AreLinked (e : List ExactCell) : Type 0 where
  pub range : (c : ℕ) → c < length e → All (λ x. x.cell < length e) (cell_at e c).links
  pub apart : (c i j : ℕ) → c < length e → i < j → j < length (cell_at e c).links →
      (slice_index_or (cell_at e c).links i no_link).cell ≡ (slice_index_or (cell_at e c).links j no_link).cell → ⊥
  pub ends : HasEqualEnds e
