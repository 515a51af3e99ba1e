-- The contents of the builder's tables.
use Rattle.std.specs.Prelude.{◌≡◌, ℕ, ◌≤◌, pos, Bool, cond, List, length, slice_index_or, Option, Some, None, ◌-◌, true}
use Rattle.step_problem.specs.{declared.heads.Bound.Bound, no_bound, declared.entry.Evap.Evap}
use Rattle.scaled_decimal.specs.declared.decimal.Sd.{Sd}
use Rattle.model_types.specs.{declared.face.Axis.Axis, declared.face.Axis.TheVariants.Row, declared.face.Axis.TheVariants.Column}
use Rattle.model_types.specs.{declared.face.Axis.TheVariants.Vertical, declared.given_heads.Kind.TheVariants.NoFlow, declared.model.FlowModel.FlowModel}
use Rattle.model_types.specs.{declared.time_steps.TimeStep.TimeStep, cell_count, HasSize, period_at, local_entries, IsModel, kind_of, index_of, given_in}
use Rattle.model_types.specs.{is_active, recharge_at, evap_at, storage_at, declared.given_heads.Kind.Kind, declared.grid.Grid.Grid}
use Rattle.conductance_bounds.specs.{declared.span.Span.Span, declared.pair.Pair.Pair, declared.pair.FlowPair.FlowPair}
use Rattle.problem_builder.specs.{declared.tables.FacePairs.FacePairs, declared.tables.Tables.Tables, declared.index.PeriodTables.PeriodTables}
use Rattle.problem_builder.specs.{declared.step.StepTables.StepTables, Widths.IsThickness, Widths.IsBedBelow, Widths.HasConductance, Widths.Filled}
use Rattle.problem_builder.specs.{GridHeads.AreConstantHeads, GridHeads.AreGridHeads, GridHeads.IsTimeOf, GridHeads.AreFactorsOf, GridHeads.HasEvenSteps}
use Rattle.problem_builder.specs.{GridHeads.HasEvenStorage, GridHeads.kept_after, GridHeads.recharge_pair, LocalBounds.AreLocalBounds, LocalBounds.local_in}
use Rattle.problem_builder.specs.{Cells.AreBranches, Cells.Branches, Cells.whole_evap}
use Rattle.std.specs.Option.{option_map}
use Rattle.model_types.specs.declared.entry.Given.{Given}

-- The contents of the tables of a stress period, cell by cell.
abbrev pub IsKind : FlowModel → ℕ → ℕ → Kind → Type 0
IsKind m p c k = k ≡ kind_of m p c

abbrev pub IsIndex : FlowModel → ℕ → ℕ → ℕ → Type 0
IsIndex m p c i = i ≡ index_of m p c

abbrev pub IsGivenIn : List Given → ℕ → Option Given → Type 0
IsGivenIn list c x = x ≡ given_in list c

-- the head that a constant-head cell keeps after p periods
abbrev pub IsKept : FlowModel → ℕ → ℕ → Bound → Type 0
IsKept m p c b = b ≡ kept_after m p c

-- the recharge that a cell receives
abbrev pub IsRecharged : FlowModel → ℕ → ℕ → ℕ → Option FlowPair → Type 0
IsRecharged m s p c x = x ≡ option_map (recharge_pair m s c) (recharge_at m p c)

-- the evapotranspiration of an active cell
abbrev pub IsEvaporated : FlowModel → ℕ → ℕ → ℕ → Option Evap → Type 0
IsEvaporated m s p c x = is_active m c ≡ true → x ≡ option_map (whole_evap m s c) (evap_at m p c)

abbrev pub no_pair : Pair
no_pair = record { lo = 0; hi = 0 }

abbrev pub pair_in : List Pair → ℕ → Pair
pair_in xs c = slice_index_or xs c no_pair

abbrev pub no_decimal : Sd
no_decimal = record { m = 0; e = pos 0 }

abbrev pub no_span : Span
no_span = record { lo = no_decimal; hi = no_decimal }

abbrev pub span_in : List Span → ℕ → Span
span_in xs c = slice_index_or xs c no_span

-- the bound of a cell, or of an index
abbrev pub bound_at : List Bound → ℕ → Bound
bound_at xs c = slice_index_or xs c no_bound

-- an optional item of a table
abbrev pub item_in : {X : Type 0} → List (Option X) → ℕ → Option X
item_in xs c = slice_index_or xs c None

-- The tables of a run: thicknesses, and the conductances of the faces by their first cells.

abbrev pub pair_at : FacePairs → Axis → ℕ → Pair
pair_at t Row c = pair_in t.row c
pair_at t Column c = pair_in t.column c
pair_at t Vertical c = pair_in t.vertical c

-- a pair for each cell along each axis
pub record HasPairs (g : Grid) (t : FacePairs) : Type 0 where
  pub row : length t.row ≡ cell_count g
  pub column : length t.column ≡ cell_count g
  pub vertical : length t.vertical ≡ cell_count g

-- branches over these pairs, without storage
abbrev pub branches_over : FacePairs → Branches
branches_over t = record { pair = pair_at t; stored = None }

pub record AreTables (m : FlowModel) (s : ℕ) (t : Tables) : Type 0 where
  pub digits : t.digits ≡ s
  pub thick : Filled (IsThickness m) no_span (cell_count m.grid) t.thick
  pub bed : Filled (IsBedBelow m) no_span (cell_count m.grid) t.bed
  pub row : Filled (HasConductance m s Row) no_pair (cell_count m.grid) t.pairs.row
  pub column : Filled (HasConductance m s Column) no_pair (cell_count m.grid) t.pairs.column
  pub vertical : Filled (HasConductance m s Vertical) no_pair (cell_count m.grid) t.pairs.vertical

-- The tables of a stress period: kinds and indices, given and kept heads, and for each cell the bounds of its entries, of its
-- recharge and of its evapotranspiration.

pub record ArePeriodTables (m : FlowModel) (s p : ℕ) (t : PeriodTables) : Type 0 where
  pub period : t.period ≡ p
  pub steady : t.steady ≡ (period_at m p).steady
  pub kinds : Filled (IsKind m p) NoFlow (cell_count m.grid) t.kinds
  pub index : Filled (IsIndex m p) 0 (cell_count m.grid) t.index
  pub given : Filled (IsGivenIn (period_at m p).stresses.given) None (cell_count m.grid) t.given
  pub kept : Filled (IsKept m (p - 1)) no_bound (cell_count m.grid) t.kept
  pub locals : length t.local ≡ cell_count m.grid
  pub local : (c : ℕ) → AreLocalBounds s c (local_in t.local c) (local_entries m p c)
  pub recharge : Filled (IsRecharged m s p) None (cell_count m.grid) t.recharge
  pub evaps : Filled (IsEvaporated m s p) None (cell_count m.grid) t.evaps

-- A stress period's table of storage: the same in every step. None, where steps aren't equally long.

abbrev pub AreEvenStorages : FlowModel → ℕ → ℕ → Option (List Pair) → Type 0
AreEvenStorages m s p None = HasEvenSteps (period_at m p) → ⊥
AreEvenStorages m s p (Some xs) = Filled (HasEvenStorage m s p) no_pair (cell_count m.grid) xs

-- The tables of a time step: the factors of its length, and the heads of constant cells.

pub record AreStepTables (m : FlowModel) (at : TimeStep) (t : StepTables) : Type 0 where
  pub factors : AreFactorsOf m at t.factors
  pub heads : AreConstantHeads m at t.heads

-- The data from which a step's cells are made. Where `stored` is false, storage is left out.
pub record Inputs : Type 0 where
  pub model : FlowModel
  pub tables : Tables
  pub pairs : FacePairs
  pub stored : Bool
  pub period : PeriodTables
  pub step : StepTables
  pub at : TimeStep
  pub old : List Bound

abbrev pub branches_of : Inputs → Branches
branches_of i = record { pair = pair_at i.pairs; stored = cond i.stored (storage_at i.model i.at.period) None }

pub record AreInputs (i : Inputs) : Type 0 where
  pub model : IsModel i.model
  pub time : IsTimeOf i.model i.at
  pub size : HasSize i.model.grid
  pub digits : i.tables.digits ≤ 18
  pub tables : AreTables i.model i.tables.digits i.tables
  pub pairs : HasPairs i.model.grid i.pairs
  pub branches : AreBranches i.model i.at (branches_of i)
  pub period : ArePeriodTables i.model i.tables.digits i.at.period i.period
  pub storage : AreEvenStorages i.model i.tables.digits i.at.period i.period.storage
  pub step : AreStepTables i.model i.at i.step
  pub old : AreGridHeads i.model i.old
