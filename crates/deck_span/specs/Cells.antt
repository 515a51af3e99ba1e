-- The cell of the first difference of a package: each part as a deck has it, one after another.
use Rattle.std.specs.Prelude.{◌≡◌, ℕ, List, [], ◌∷◌, Option, None, length, Some, All, take, slice_get}
use Rattle.std.specs.List.{AllZip}
use Rattle.decimal_input.specs.declared.dec.Dec.{Dec}
use Rattle.name_file.specs.declared.package.Package.{Package}
use Rattle.name_file.specs.declared.package.Package.TheVariants.{Dis, Bas, Lpf, Wel, Riv, Drn, Ghb, Rch, Chd, Evt}
use Rattle.model_types.specs.{declared.grid.CellId.CellId, declared.grid.Grid.Grid, declared.model.FlowModel.FlowModel, declared.period.Period.Period}
use Rattle.model_types.specs.{cell_count, layer_size, cell_of}
use Rattle.deck_span.specs.{Alike.AreEntriesAlike, Alike.AreGivenAlike, Alike.AreRatesAlike, Alike.AreAlike, Order.AreSame, Order.IsFirst, Order.InOrder}
use Rattle.deck_span.specs.{Order.IsArrayCell, Order.IsLayerCell, Order.IsListCell, Shared.SharesHead, Shared.SharesIn, Shared.Shares, Shared.comparing_order}
use Rattle.deck_span.specs.{declared.difference.Difference.Difference}

-- DIS: NLAY, NROW, NCOL, NPER and LENUNI
pub record SharesCounts (a b : FlowModel) : Type 0 where
  pub layers : b.grid.layers ≡ a.grid.layers
  pub rows : b.grid.rows ≡ a.grid.rows
  pub cols : b.grid.cols ≡ a.grid.cols
  pub nper : length b.periods ≡ length a.periods
  pub lenuni : b.lenuni ≡ a.lenuni

-- LAYCBD, DELR and DELC
pub record SharesWidths (a b : Grid) : Type 0 where
  pub laycbd : b.laycbd ≡ a.laycbd
  pub delr : b.delr ≡ a.delr
  pub delc : b.delc ≡ a.delc

-- DIS before its elevations, and how many elevations there are below the top
pub record SharesSizes (a b : FlowModel) : Type 0 where
  pub counts : SharesCounts a b
  pub widths : SharesWidths a.grid b.grid
  pub bottom : length b.grid.bottom ≡ length a.grid.bottom
  pub bed_bottom : length b.grid.bed_bottom ≡ length a.grid.bed_bottom

-- BOTM: each layer's bottom, then that of the bed below it
abbrev pub bottoms : Grid → List (List Dec)
bottoms g = g.bottom ∷ g.bed_bottom ∷ []

-- how many numbers LPF's arrays have
pub record SharesLengths (a b : FlowModel) : Type 0 where
  pub hk : length b.hk ≡ length a.hk
  pub hani : length b.hani ≡ length a.hani
  pub vka : length b.vka ≡ length a.vka
  pub ss : length b.ss ≡ length a.ss
  pub vkcb : length b.vkcb ≡ length a.vkcb

-- LPF before its arrays
pub record SharesOptions (a b : FlowModel) : Type 0 where
  pub coefficient : b.coefficient ≡ a.coefficient
  pub layvka : b.layvka ≡ a.layvka
  pub lengths : SharesLengths a b

-- LPF's arrays of a layer, in their order
abbrev pub properties : FlowModel → List (List Dec)
properties m = m.hk ∷ m.hani ∷ m.vka ∷ m.ss ∷ m.vkcb ∷ []

-- The cell of what a package has once. Sizes, times and options have none.
abbrev pub IsHeadCell : Package → FlowModel → FlowModel → Option CellId → Type 0
IsHeadCell Dis a b cell =
    InOrder (SharesSizes a b) (cell ≡ None)
    (InOrder (b.grid.top ≡ a.grid.top) (IsArrayCell AreSame (cell_count b.grid) a.grid.top b.grid.top cell)
    (IsLayerCell (layer_size b.grid) (cell_count b.grid) (bottoms a.grid) (bottoms b.grid) cell))
IsHeadCell Bas a b cell = InOrder (b.ibound ≡ a.ibound) (IsArrayCell AreSame (cell_count b.grid) a.ibound b.ibound cell) (cell ≡ None)
IsHeadCell Lpf a b cell =
    InOrder (SharesOptions a b) (cell ≡ None)
    (IsLayerCell (layer_size b.grid) (cell_count b.grid) (properties a) (properties b) cell)
IsHeadCell Rch a b cell = cell ≡ None
IsHeadCell Evt a b cell = cell ≡ None
IsHeadCell kind a b cell = ⊥

-- The cell of what a package has in a stress period, in a grid of this many cells.
abbrev pub IsCellIn : Package → ℕ → Period → Period → Option CellId → Type 0
IsCellIn Dis cells p q cell = cell ≡ None
IsCellIn Bas cells p q cell = ⊥
IsCellIn Lpf cells p q cell = ⊥
IsCellIn Wel cells p q cell = IsListCell AreEntriesAlike (λ place x. cell_of x) cells p.stresses.wells q.stresses.wells cell
IsCellIn Riv cells p q cell = IsListCell AreEntriesAlike (λ place x. cell_of x) cells p.stresses.rivers q.stresses.rivers cell
IsCellIn Drn cells p q cell = IsListCell AreEntriesAlike (λ place x. cell_of x) cells p.stresses.drains q.stresses.drains cell
IsCellIn Ghb cells p q cell = IsListCell AreEntriesAlike (λ place x. cell_of x) cells p.stresses.generals q.stresses.generals cell
IsCellIn Chd cells p q cell = IsListCell AreGivenAlike (λ place x. x.cell.0) cells p.stresses.given q.stresses.given cell
IsCellIn Rch cells p q cell =
    InOrder (length q.stresses.recharge ≡ length p.stresses.recharge) (cell ≡ None)
    (IsArrayCell AreSame cells p.stresses.irch q.stresses.irch cell)
IsCellIn Evt cells p q cell =
    InOrder (length q.stresses.surf ≡ length p.stresses.surf) (cell ≡ None)
    (InOrder (AllZip AreRatesAlike p.stresses.evtr q.stresses.evtr) (IsArrayCell AreRatesAlike cells p.stresses.evtr q.stresses.evtr cell)
    (InOrder (q.stresses.exdp ≡ p.stresses.exdp) (IsArrayCell AreSame cells p.stresses.exdp q.stresses.exdp cell)
    (IsArrayCell AreSame cells p.stresses.ievt q.stresses.ievt cell)))

-- that of the first stress period that isn't shared
pub record IsPeriodCell (kind : Package) (cells : ℕ) (ps qs : List Period) (cell : Option CellId) : Type 0 where
  pub period : ℕ
  pub first : IsFirst (SharesIn kind) ps qs period
  pub names : IsCellIn kind cells first.first first.second cell

-- A package's cell: of what it has once, then of its stress periods in turn. Another number of periods has none.
abbrev pub IsCell : Package → FlowModel → FlowModel → Option CellId → Type 0
IsCell kind a b cell =
    InOrder (SharesHead kind a b) (IsHeadCell kind a b cell)
    (InOrder (length b.periods ≡ length a.periods) (cell ≡ None)
    (IsPeriodCell kind (cell_count b.grid) a.periods b.periods cell))

-- The first difference of two models, in the order in which a deck is read.
-- The package is the first one in reading order that two models don't share, and the cell is that of the package's
-- first difference.
pub record IsFirstDifference (a b : FlowModel) (d : Difference) : Type 0 where
  pub place : ℕ
  pub kind : slice_get comparing_order place ≡ Some d.package
  pub before : All (λ x. Shares x a b) (take place comparing_order)
  pub unlike : Shares d.package a b → ⊥
  pub cell : IsCell d.package a b d.cell

-- What models share that are alike.
-- Two models are alike where they share each package, and only there.
abbrev pub SharedPackagesAreAlike : Type 0
SharedPackagesAreAlike =
    (a b : FlowModel) → (All (λ x. Shares x a b) comparing_order → AreAlike a b) × (AreAlike a b → All (λ x. Shares x a b) comparing_order)

-- Two models have at most one first difference.
abbrev pub DifferenceIsOne : Type 0
DifferenceIsOne = (a b : FlowModel) (d e : Difference) → IsFirstDifference a b d → IsFirstDifference a b e → d ≡ e
