-- The cell of a column of layers that receives recharge, and the one that evaporates (TM 6-A16, chapter 6, RCH and EVT).
use Rattle.std.specs.Prelude.{ℕ, suc, ◌+◌, ◌*◌, ℤ, pos, negsuc, Bool, false, cond, not, ◌&&◌, ◌||◌, ◌==◌, List, Option, Some, None, ◌≡◌, ◌-◌, ◌<◌, ◌≤◌, All}
use Rattle.std.specs.Prelude.{length, IfSome, ◌^◌, neg_ℤ, ◌+ℤ◌, ◌≤ℤ◌, unsigned_abs}
use Rattle.std.specs.List.{range_with_len, list_any}
use Rattle.decimal_input.specs.{declared.dec.Dec.Dec, number, size, Ratio, over, Fraction, as_fraction, opposite, IsDec, EnclosesSigned, IsSignedFloor}
use Rattle.decimal_input.specs.{IsSignedCeiling, Ratios.times, Fractions.plus, Fractions.times as product}
use Rattle.model_types.specs.{declared.model.FlowModel.FlowModel, Faces.layer_of, Faces.layer_size, Faces.place_in_layer, Faces.cell_count, Layers.dec_at}
use Rattle.model_types.specs.{Layers.int_at, Layers.is_active, Layers.area, Layers.delr_at, Layers.delc_at, Layers.thickness, Times.period_at, Times.power}
use Rattle.model_types.specs.{Times.geometric, declared.grid.Grid.Grid, declared.face.Face.Face, declared.period.Period.Period}
use Rattle.model_types.specs.{declared.limits.Limits.TheVariants.Wide, Limits.most_cells}

abbrev pub is_int : ℤ → ℕ → Bool
is_int (pos n) k = n == k
is_int (negsuc n) k = false

module _ (m : FlowModel) where
  -- whether no cell above this one in its column of layers is active
  abbrev pub is_highest : ℕ → Bool
  is_highest c = not (list_any (λ k. is_active m (k * layer_size m.grid + place_in_layer m.grid c)) (range_with_len 0 (layer_of m.grid c)))

  -- whether the cell is the one of its column of layers that an option chooses: under option 1 the cell of layer 1,
  -- under 2 that of the layer which the array names, under 3 the highest active cell
  abbrev pub is_chosen : ℤ → List ℤ → ℕ → Bool
  is_chosen option layers c =
      (is_int option 1 && (layer_of m.grid c == 0))
      || (is_int option 2 && is_int (int_at layers (place_in_layer m.grid c)) (suc (layer_of m.grid c)))
      || (is_int option 3 && is_active m c && is_highest c)

-- An evapotranspiration: the greatest rate EVTR, the surface SURF, and the extinction depth EXDP.
pub record EvapSource : Type 0 where
  pub rate : Dec
  pub surface : Dec
  pub depth : Dec

module _ (m : FlowModel) (p : ℕ) where
  -- the rate RECH of recharge at the cell that NRCHOP chooses
  abbrev pub recharge_at : ℕ → Option Dec
  recharge_at c = cond (is_chosen m m.nrchop (period_at m p).stresses.irch c) (Some (dec_at (period_at m p).stresses.recharge (place_in_layer m.grid c))) None

  -- EVTR, SURF and EXDP at the place of a cell
  abbrev pub evap_source : ℕ → EvapSource
  evap_source c =
      record {
        rate = dec_at (period_at m p).stresses.evtr (place_in_layer m.grid c);
        surface = dec_at (period_at m p).stresses.surf (place_in_layer m.grid c);
        depth = dec_at (period_at m p).stresses.exdp (place_in_layer m.grid c);
      }

  -- whether the cell evaporates: NEVTOP chooses it, and EVTR isn't 0
  abbrev pub evaporates : ℕ → Bool
  evaporates c = is_chosen m m.nevtop (period_at m p).stresses.ievt c && not ((evap_source c).rate.digits == 0)

  abbrev pub evap_at : ℕ → Option EvapSource
  evap_at c = cond (evaporates c) (Some (evap_source c)) None

module _ (m : FlowModel) where
  -- recharge as a flow into the cell: RECH * DELR * DELC
  abbrev pub recharge_flow : ℕ → Dec → Fraction
  recharge_flow c rate = product (number rate) (as_fraction (area m c))

  -- evapotranspiration as a conductance: EVTR * DELR * DELC / EXDP
  abbrev pub evap_conductance : ℕ → EvapSource → Ratio
  evap_conductance c x = over (times (size x.rate) (area m c)) (size x.depth)

-- the extinction elevation, which lies the extinction depth below the surface
abbrev pub extinction : EvapSource → Fraction
extinction x = plus (number x.surface) (opposite (number x.depth))

-- What DIS promises of a grid: its limits, and the lengths and the signs of its lists.
-- The tests of the readers on single numbers of the input. The limits are this program's own.
-- above 0
pub record IsPositive (d : Dec) : Type 0 where
  pub decimal : IsDec d
  pub sign : d.neg ≡ false
  pub positive : 0 < d.digits

-- not below 0
pub record IsNotNegative (d : Dec) : Type 0 where
  pub decimal : IsDec d
  pub sign : d.neg ≡ false

-- a head or an elevation: from -4000000000 to 4000000000 length units
pub record IsHeadNumber (d : Dec) : Type 0 where
  pub decimal : IsDec d
  pub range : EnclosesSigned (neg_ℤ (pos 4000000000)) (pos 4000000000) 0 (number d)

-- The room between two elevations, from the floor of the upper one and the ceiling of the lower one in units of
-- 10^-18: at least 10^6 units, and both are below 2^126.
pub record IsThick (top bottom : Dec) : Type 0 where
  pub floor : ℤ
  pub ceiling : ℤ
  pub is_floor : IsSignedFloor floor (number top) 18
  pub is_ceiling : IsSignedCeiling ceiling (number bottom) 18
  pub small : (unsigned_abs floor < 2 ^ 126) × (unsigned_abs ceiling < 2 ^ 126)
  pub room : (ceiling +ℤ pos 1000000) ≤ℤ floor

-- The limits on NLAY, NROW, NCOL and the number of cells. Most calls need no more of a grid.
pub record HasSize (g : Grid) : Type 0 where
  pub layers : (1 ≤ g.layers) × (g.layers ≤ 1024)
  pub rows : (1 ≤ g.rows) × (g.rows ≤ 4096)
  pub cols : (1 ≤ g.cols) × (g.cols ≤ 4096)
  pub cells : cell_count g ≤ most_cells Wide

-- a layer, a row and a column of the grid, counted from 1
pub record IsPlace (g : Grid) (k i j : ℕ) : Type 0 where
  pub layer : (1 ≤ k) × (k ≤ g.layers)
  pub row : (1 ≤ i) × (i ≤ g.rows)
  pub col : (1 ≤ j) × (j ≤ g.cols)

-- a face, if there is one, lies between cells of the grid
abbrev pub IsInGrid : Grid → Option Face → Type 0
IsInGrid g face = IfSome face (λ x. (x.first < cell_count g) × (x.end < cell_count g))

pub record IsGrid (g : Grid) : Type 0 where
  pub size : HasSize g
  pub delr : (length g.delr ≡ g.cols) × All IsPositive g.delr
  pub delc : (length g.delc ≡ g.rows) × All IsPositive g.delc
  pub top : (length g.top ≡ layer_size g) × All IsDec g.top
  pub bottom : (length g.bottom ≡ cell_count g) × All IsDec g.bottom
  pub laycbd : length g.laycbd ≡ g.layers
  pub no_last_bed : int_at g.laycbd (g.layers - 1) ≡ pos 0
  pub bed_bottom : (length g.bed_bottom ≡ cell_count g) × All IsDec g.bed_bottom

-- Storage of a cell over a time step (TM 6-A16, chapters 2 and 5).
-- SS * THICK, or SS alone under the option STORAGECOEFFICIENT
abbrev pub storativity : FlowModel → ℕ → Ratio
storativity m c = cond m.coefficient (size (dec_at m.ss c)) (times (size (dec_at m.ss c)) (thickness m c))

-- SC, the storage capacity: SS * THICK * DELR * DELC
abbrev pub storage_capacity : FlowModel → ℕ → Ratio
storage_capacity m c = times (times (storativity m c) (size (delr_at m c))) (size (delc_at m c))

-- The storage of step n of a transient period, SC over the step's length: SC * G(NSTP) / (PERLEN * T^(n-1)).
unfoldable pub storage : FlowModel → Period → ℕ → ℕ → Ratio
storage m p n c = over (times (storage_capacity m c) (geometric (size p.tsmult) p.nstp)) (times (size p.perlen) (power (size p.tsmult) (n - 1)))
