-- Bounds of the heads of all cells of the grid, by cell number, in units of 10^-9.
use Rattle.std.specs.Prelude.{◌≡◌, ℕ, ◌<◌, ◌⊎◌, true, List, All, Contains, length, ◌-◌, ℤ, false, Option, Some, None, take, ◌+◌, pos, ◌≤ℤ◌, ◌≤◌, ◌^◌, cond, map}
use Rattle.decimal_input.specs.{Fraction, EnclosesSigned, size, number, IsSignedCeiling, declared.dec.Dec.Dec}
use Rattle.step_problem.specs.{declared.heads.Bound.Bound, declared.entry.Fixed.Fixed, Entries.Entries, entries_at, lower_at, upper_at, no_bound, IsHead}
use Rattle.step_problem.specs.{declared.entry.FixedKind.TheVariants.Storage}
use Rattle.model_types.specs.{declared.model.FlowModel.FlowModel, cell_count, is_active, dec_at, period_at, is_constant, given_in, last_given, IsPositive}
use Rattle.model_types.specs.{is_variable, number_one, IsPeriod, declared.time_steps.TimeStep.TimeStep, declared.period.Period.Period}
use Rattle.model_types.specs.declared.entry.Given.{Given}
use Rattle.conductance_bounds.specs.{recharge_term, Number, storage_term, IsUsable, factors_of as step_factors, capped_pair, capped_flow, head_pair, part}
use Rattle.conductance_bounds.specs.{given_pair, declared.head.HeadPair.HeadPair, declared.pair.FlowPair.FlowPair, declared.storage.Factors.Factors}
use Rattle.conductance_bounds.specs.{declared.pair.Pair.Pair, declared.part.Part.Part}
use Rattle.std.specs.List.{range_with_len}

-- Numbers of the input as whole bounds: conductances in units of 10^-s, flows of 10^-(s+9), heads of 10^-9.
-- a conductance as its own formula
abbrev pub cond_pair : ℕ → Dec → Pair
cond_pair s d = capped_pair (Number (size d)) s

-- the flow of a well, and recharge of cell c at a rate
abbrev pub well_pair : ℕ → Dec → FlowPair
well_pair s d = capped_flow (Number (size d)) d.neg (s + 9)

abbrev pub recharge_pair : FlowModel → ℕ → ℕ → Dec → FlowPair
recharge_pair m s c rate = capped_flow (recharge_term m rate c) rate.neg (s + 9)

-- the floor and the ceiling of a head
abbrev pub bound_of_pair : HeadPair → Bound
bound_of_pair pair = record { low = pair.lo; high = pair.hi }

abbrev pub head_bound : Dec → Bound
head_bound d = bound_of_pair (head_pair d)

-- the storage of cell c at a time of a transient period
abbrev pub storage_pair : FlowModel → ℕ → TimeStep → ℕ → Pair
storage_pair m s at c = capped_pair (storage_term m (period_at m at.period) at.step c) s

-- An extinction depth whose bounds are whole numbers of 64 bits.
-- above 0, and at most 8000000000 length units in whole units of 10^-9
pub record IsDepth (d : Dec) : Type 0 where
  pub positive : IsPositive d
  pub ceiling : ℤ
  pub is : IsSignedCeiling ceiling (number d) 9
  pub small : ceiling ≤ℤ pos 8000000000000000000

-- one bound for each cell, with heads in range
pub record AreGridHeads (m : FlowModel) (bounds : List Bound) : Type 0 where
  pub whole : length bounds ≡ cell_count m.grid
  pub range : All (λ b. IsHead b.low × IsHead b.high) bounds

-- a cell of the grid whose IBOUND isn't 0
pub record IsActive (m : FlowModel) (c : ℕ) : Type 0 where
  pub within : c < cell_count m.grid
  pub active : is_active m c ≡ true

-- bounds that enclose exact heads at all active cells
abbrev pub HeadsEnclose : FlowModel → List Bound → (ℕ → Fraction) → Type 0
HeadsEnclose m bounds heads = (c : ℕ) → IsActive m c → EnclosesSigned (lower_at bounds c) (upper_at bounds c) 9 (heads c)

-- a cell number that a problem names: a variable cell's own, or the source of a known head
abbrev pub IsCellNamed : List Entries → ℕ → Type 0
IsCellNamed p c = (k : ℕ) × (k < length p) × ((c ≡ (entries_at p k).id) ⊎ ((x : Fixed) × Contains (entries_at p k).fixed x × (c ≡ x.source)))

-- The head of a constant-head cell at a time, as whole bounds in units of 10^-9.
-- the head that a constant cell keeps: the Ehead of the last list that named it, or STRT
abbrev pub kept_bound : FlowModel → ℕ → Option Given → Bound
kept_bound m c None = head_bound (dec_at m.strt c)
kept_bound m c (Some x) = head_bound x.ehead

-- where the period's list names the cell, between Shead and Ehead by the part of the period that has passed; else the head that the cell keeps
abbrev pub given_or_kept : FlowModel → TimeStep → ℕ → Option Given → Bound
given_or_kept m at c None = kept_bound m c (last_given (take (at.period - 1) m.periods) c)
given_or_kept m at c (Some x) = bound_of_pair (given_pair x.shead x.ehead (part (period_at m at.period) at.step))

unfoldable pub constant_bound : FlowModel → TimeStep → ℕ → Bound
constant_bound m at c = given_or_kept m at c (given_in (period_at m at.period).stresses.given c)

abbrev pub IsConstantPair : FlowModel → TimeStep → ℕ → ℤ → ℤ → Type 0
IsConstantPair m at c lo hi = (lo ≡ (constant_bound m at c).low) × (hi ≡ (constant_bound m at c).high)

-- a list with an item for each cell of the grid
abbrev pub each_cell : {X : Type 0} → FlowModel → (ℕ → X) → List X
each_cell m f = map f (range_with_len 0 (cell_count m.grid))

-- for each cell the bound of its head if that is constant, zeros in any other cell
abbrev pub known_bound : FlowModel → TimeStep → ℕ → Bound
known_bound m at c = cond (is_constant m at.period c) (constant_bound m at c) no_bound

abbrev pub AreConstantHeads : FlowModel → TimeStep → List Bound → Type 0
AreConstantHeads m at heads = heads ≡ each_cell m (known_bound m at)

-- the head that each active cell keeps after p periods, if it is a constant-head cell; zeros where there is no flow
abbrev pub kept_after : FlowModel → ℕ → ℕ → Bound
kept_after m p c = cond (is_active m c) (kept_bound m c (last_given (take p m.periods) c)) no_bound

-- The bounds of STRT: floor and ceiling in units of 10^-9, zeros where there is no flow.
abbrev pub start_bound : FlowModel → ℕ → Bound
start_bound m c = cond (is_active m c) (head_bound (dec_at m.strt c)) no_bound

abbrev pub AreStartHeads : FlowModel → List Bound → Type 0
AreStartHeads m bounds = bounds ≡ each_cell m (start_bound m)

-- The contents of the tables of a time step, cell by cell.
-- the factors of a step of a transient period
pub record AreStepFactors (m : FlowModel) (at : TimeStep) (f : Factors) : Type 0 where
  pub transient : (period_at m at.period).steady ≡ false
  pub grown : f ≡ step_factors (size (period_at m at.period).tsmult) (period_at m at.period).nstp at.step
  pub usable : IsUsable f

-- the factors, or None in a steady period
abbrev pub AreFactorsOf : FlowModel → TimeStep → Option Factors → Type 0
AreFactorsOf m at None = (period_at m at.period).steady ≡ true
AreFactorsOf m at (Some f) = AreStepFactors m at f

-- the bounds of a variable cell's storage in a transient period
abbrev pub HasStorage : FlowModel → ℕ → TimeStep → ℕ → Pair → Type 0
HasStorage m s at c x = is_variable m at.period c ≡ true → (period_at m at.period).steady ≡ false → x ≡ storage_pair m s at c

-- a transient period whose steps are equally long (TM 6-A16, chapter 4, DIS)
pub record HasEvenSteps (p : Period) : Type 0 where
  pub transient : p.steady ≡ false
  pub even : p.tsmult ≡ number_one

-- the factors of every step of such a period, or None in another one
abbrev pub AreEvenFactors : FlowModel → ℕ → Option Factors → Type 0
AreEvenFactors m p None = HasEvenSteps (period_at m p) → ⊥
AreEvenFactors m p (Some f) = (n : ℕ) → AreStepFactors m (record { period = p; step = n }) f

-- the bounds of a variable cell's storage in every step
abbrev pub HasEvenStorage : FlowModel → ℕ → ℕ → ℕ → Pair → Type 0
HasEvenStorage m s p c x = (n : ℕ) → HasStorage m s (record { period = p; step = n }) c x

-- the part of the period that has passed at a time
pub record IsPartOf (m : FlowModel) (at : TimeStep) (x : Part) : Type 0 where
  pub is : x ≡ part (period_at m at.period) at.step
  pub range : (x.lo ≤ 10 ^ 18) × (x.hi ≤ 10 ^ 18)

-- Storage of the cells of a problem.
-- each variable cell has a branch to its old head
abbrev pub HasOldHeads : List Entries → Type 0
HasOldHeads p = (c : ℕ) → c < length p → (x : Fixed) × Contains (entries_at p c).fixed x × (x.kind ≡ Storage) × (x.source ≡ (entries_at p c).id)

-- A time step of a model.
-- one of a period's steps, and the period is one of the model's
pub record IsTimeOf (m : FlowModel) (at : TimeStep) : Type 0 where
  pub period : (1 ≤ at.period) × (at.period ≤ length m.periods)
  pub step : (1 ≤ at.step) × (at.step ≤ (period_at m at.period).nstp)
  pub valid : IsPeriod m (period_at m at.period)
