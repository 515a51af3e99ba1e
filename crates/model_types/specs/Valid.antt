-- What the readers promise of a model, and what the crates above may require: limits, lengths of lists, and the
-- checks on cells. Each field is one test of the readers, or a few.
use Rattle.std.specs.Prelude.{◌≡◌, ℕ, ◌+◌, ◌<◌, ◌≤◌, ◌⊎◌, ℤ, pos, neg_ℤ, ◌+ℤ◌, ◌≤ℤ◌, true, false, List, All, length, sum_by}
use Rattle.std.specs.List.{AllPairs}
use Rattle.decimal_input.specs.{declared.dec.Dec.Dec, IsDec, number, size, ratio, IsSignedFloor, IsSignedCeiling, Ratios.AtMost}
use Rattle.model_types.specs.{declared.grid.Grid.Grid, declared.model.FlowModel.FlowModel, declared.period.Period.Period, declared.period.Stresses.Stresses}
use Rattle.model_types.specs.{declared.entry.Entry.Entry, declared.entry.Entry.TheVariants.Well, declared.entry.Entry.TheVariants.River}
use Rattle.model_types.specs.{declared.entry.Entry.TheVariants.Drain, declared.entry.Entry.TheVariants.General, Faces.layer_size, Faces.cell_count}
use Rattle.model_types.specs.{Layers.dec_at, Layers.is_active, Layers.has_bed, Layers.top_at, Layers.bottom_at, Layers.lowest, Receivers.EvapSource}
use Rattle.model_types.specs.{Receivers.is_int, Receivers.IsPositive, Receivers.IsNotNegative, Receivers.IsHeadNumber, Receivers.IsThick, Receivers.IsGrid}
use Rattle.model_types.specs.{Sources.evap_sources, declared.limits.Limits.TheVariants.Wide, Limits.most_entries}
use Rattle.model_types.specs.declared.entry.Given.{Given}

abbrev pub number_one : Dec
number_one = record { neg = false; digits = 1; exp = pos 0 }

-- an active cell: its thickness, STRT, HK, HANI, VKA where there are several layers, and SS
pub record IsCellValid (m : FlowModel) (c : ℕ) : Type 0 where
  pub thick : IsThick (top_at m c) (bottom_at m c)
  pub strt : IsHeadNumber (dec_at m.strt c)
  pub hk : IsPositive (dec_at m.hk c)
  pub hani : IsPositive (dec_at m.hani c)
  pub vka : 1 < m.grid.layers → IsPositive (dec_at m.vka c)
  pub ss : IsNotNegative (dec_at m.ss c)

-- a confining bed between two active cells: its thickness and VKCB
pub record IsBedValid (m : FlowModel) (c : ℕ) : Type 0 where
  pub thick : IsThick (bottom_at m c) (lowest m c)
  pub vkcb : IsPositive (dec_at m.vkcb c)

-- an entry of WEL, RIV, DRN or GHB in a grid of this many cells
abbrev pub IsEntryValid : ℕ → Entry → Type 0
IsEntryValid cells (Well cell q) = (cell.0 < cells) × IsDec q
IsEntryValid cells (River cell stage k bottom) = (cell.0 < cells) × IsHeadNumber stage × IsNotNegative k × IsHeadNumber bottom
IsEntryValid cells (Drain cell elevation k) = (cell.0 < cells) × IsHeadNumber elevation × IsNotNegative k
IsEntryValid cells (General cell head k) = (cell.0 < cells) × IsHeadNumber head × IsNotNegative k

-- a list of at most the entries of the wide limits
pub record IsEntryList (cells : ℕ) (xs : List Entry) : Type 0 where
  pub few : length xs ≤ most_entries Wide
  pub entries : All (IsEntryValid cells) xs

pub record IsGivenValid (cells : ℕ) (x : Given) : Type 0 where
  pub cell : x.cell.0 < cells
  pub shead : IsHeadNumber x.shead
  pub ehead : IsHeadNumber x.ehead

-- a CHD list, which names a cell at most once
pub record IsGivenList (cells : ℕ) (xs : List Given) : Type 0 where
  pub few : length xs ≤ most_entries Wide
  pub entries : All (IsGivenValid cells) xs
  pub once : AllPairs (λ x y. x.cell ≡ y.cell → ⊥) xs

-- an array of one layer
pub record IsLayerArray (grid : Grid) (xs : List Dec) : Type 0 where
  pub whole : length xs ≡ layer_size grid
  pub decimals : All IsDec xs

-- an evapotranspiration whose rate isn't 0: its depth is above 0, and its surface and its extinction elevation are
-- heads, the latter as the floor of the surface less the ceiling of the depth in units of 10^-9
pub record IsEvapValid (x : EvapSource) : Type 0 where
  pub rate : IsPositive x.rate
  pub depth : IsPositive x.depth
  pub surface : IsHeadNumber x.surface
  pub floor : ℤ
  pub ceiling : ℤ
  pub is_floor : IsSignedFloor floor (number x.surface) 9
  pub is_ceiling : IsSignedCeiling ceiling (number x.depth) 9
  pub extinction : (ceiling +ℤ neg_ℤ (pos 4000000000000000000)) ≤ℤ floor

-- a transient period's steps that grow or shrink: TSMULT from 0.001 to 1000, and at most 1000 steps
pub record IsGrowing (p : Period) : Type 0 where
  pub few : p.nstp ≤ 1000
  pub least : AtMost (ratio 1 1000) (size p.tsmult)
  pub most : AtMost (size p.tsmult) (ratio 1000 1)

-- the times of a period
pub record IsTimed (p : Period) : Type 0 where
  pub nstp : (1 ≤ p.nstp) × (p.nstp ≤ 100000)
  pub perlen : IsNotNegative p.perlen
  pub lasts : p.steady ≡ false → IsPositive p.perlen
  pub tsmult : IsPositive p.tsmult
  pub growth : p.steady ≡ false → (p.tsmult ≡ number_one) ⊎ IsGrowing p

-- the stresses of a period of a model with this grid, NRCHOP and NEVTOP
pub record AreStresses (grid : Grid) (nrchop nevtop : ℤ) (s : Stresses) : Type 0 where
  pub wells : IsEntryList (cell_count grid) s.wells
  pub rivers : IsEntryList (cell_count grid) s.rivers
  pub drains : IsEntryList (cell_count grid) s.drains
  pub generals : IsEntryList (cell_count grid) s.generals
  pub given : IsGivenList (cell_count grid) s.given
  pub recharge : is_int nrchop 0 ≡ false → IsLayerArray grid s.recharge
  pub irch : is_int nrchop 2 ≡ true → length s.irch ≡ layer_size grid
  pub surf : is_int nevtop 0 ≡ false → IsLayerArray grid s.surf
  pub evtr : is_int nevtop 0 ≡ false → IsLayerArray grid s.evtr
  pub exdp : is_int nevtop 0 ≡ false → IsLayerArray grid s.exdp
  pub ievt : is_int nevtop 2 ≡ true → length s.ievt ≡ layer_size grid

pub record IsPeriod (m : FlowModel) (p : Period) : Type 0 where
  pub times : IsTimed p
  pub stresses : AreStresses m.grid m.nrchop m.nevtop p.stresses

-- how a bed between two active cells is tested: where its two elevations differ
abbrev pub IsBedChecked : FlowModel → ℕ → Type 0
IsBedChecked m c = (number (lowest m c) ≡ number (bottom_at m c)) ⊎ IsBedValid m c

pub record IsModel (m : FlowModel) : Type 0 where
  pub grid : IsGrid m.grid
  pub ibound : length m.ibound ≡ cell_count m.grid
  pub strt : length m.strt ≡ cell_count m.grid
  pub layvka : length m.layvka ≡ m.grid.layers
  pub hk : length m.hk ≡ cell_count m.grid
  pub hani : length m.hani ≡ cell_count m.grid
  pub vka : length m.vka ≡ cell_count m.grid
  pub vkcb : length m.vkcb ≡ cell_count m.grid
  pub ss : All (λ p. p.steady ≡ true) m.periods ⊎ (length m.ss ≡ cell_count m.grid)
  pub cells : (c : ℕ) → c < cell_count m.grid → is_active m c ≡ true → IsCellValid m c
  pub beds : (c : ℕ) → c + layer_size m.grid < cell_count m.grid → is_active m c ≡ true →
      is_active m (c + layer_size m.grid) ≡ true → has_bed m c ≡ true → IsBedChecked m c
  pub nrchop : (pos 0 ≤ℤ m.nrchop) × (m.nrchop ≤ℤ pos 3)
  pub nevtop : (pos 0 ≤ℤ m.nevtop) × (m.nevtop ≤ℤ pos 3)
  pub some : 1 ≤ length m.periods
  pub few : length m.periods ≤ 1000
  pub steps : sum_by (λ p. p.nstp) m.periods ≤ 100000
  pub periods : All (IsPeriod m) m.periods
  pub evaps : (p c : ℕ) → c < cell_count m.grid → is_active m c ≡ true → All IsEvapValid (evap_sources m p c)
