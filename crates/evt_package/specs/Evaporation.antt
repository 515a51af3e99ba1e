-- The evapotranspiration package (TM 6-A16, EVT).
use Rattle.std.specs.Prelude.{ℕ, true, List, Result, Ok, pos, neg_ℤ, ℤ, ◌+ℤ◌, Bool, false, not, ◌&&◌, ◌==◌, int_le, Option, Some, None, if◌then◌else◌, zero}
use Rattle.std.specs.Prelude.{suc, ◌+◌, ◌-◌, ◌*◌, Err}
use Rattle.outside.specs.{FileSet, declared.inputs.Refusal.Refusal, declared.codes.Code.Code, declared.codes.Code.TheVariants.BadProperty}
use Rattle.outside.specs.{declared.codes.Code.TheVariants.HeadTooLarge}
use Rattle.record_lines.specs.{◌>>=◌, each_number}
use Rattle.model_types.specs.{declared.model.FlowModel.FlowModel, declared.period.Stresses.Stresses, EvapSource, is_int, layer_size, dec_at, int_at, is_nonzero}
use Rattle.model_types.specs.{declared.grid.Grid.Grid}
use Rattle.period_arrays.specs.{ArrayKind, arrays_in, refusal_at, declared.area.Area.Area, declared.read.ArrayFile.ArrayFile}
use Rattle.decimal_input.specs.{declared.dec.Dec.Dec, floor, ceiling}
use Rattle.number_limits.specs.{is_head, is_positive, within}

-- The tests of an evapotranspiration. Limits are this program's own.
-- from -4 * 10 ^ 18 on, in units of 10 ^ -9
abbrev pub is_reached : Option ℤ → Option ℤ → Bool
is_reached None depth = false
is_reached (Some f) None = false
is_reached (Some f) (Some c) = int_le (c +ℤ neg_ℤ (pos 4000000000000000000)) f

-- the extinction elevation is a head: the floor of the surface less the ceiling of the depth
unfoldable pub has_extinction : Dec → Dec → Bool
has_extinction surface depth = is_reached (floor surface 9) (ceiling depth 9)

-- EVTR isn't below 0; where it is above 0, EXDP is above 0, and the surface and the extinction elevation are heads
abbrev pub evap_fault : EvapSource → Option Code
evap_fault x =
    if x.rate.neg then Some BadProperty
    else (if x.rate.digits == 0 then None
    else (if not (is_positive x.depth) then Some BadProperty
    else (if is_head x.surface && has_extinction x.surface x.depth then None else Some HeadTooLarge)))

-- The tests of the columns of layers, each at the cell that NEVTOP chooses (TM 6-A16, EVT).
-- the first active cell of column i among n layers from layer k on
unfoldable pub highest_active : Grid → List ℤ → ℕ → ℕ → ℕ → Option ℕ
highest_active grid ibound i k zero = None
highest_active grid ibound i k (suc n) =
    if is_nonzero (int_at ibound (k * layer_size grid + i)) then Some (k * layer_size grid + i)
    else highest_active grid ibound i (k + 1) n

-- the cell of column i in a layer counted from 1
abbrev pub in_layer : Grid → ℕ → Option ℕ → Option ℕ
in_layer grid i None = None
in_layer grid i (Some k) = Some ((k - 1) * layer_size grid + i)

-- the cell of column i that is chosen: that of layer 1 under option 1, of the layer which the array names under option 2, else the highest active one
abbrev pub chosen_cell : Grid → List ℤ → ℤ → List ℤ → ℕ → Option ℕ
chosen_cell grid ibound option layers i =
    if is_int option 1 then Some i
    else (if is_int option 2 then in_layer grid i (within (int_at layers i) grid.layers)
    else highest_active grid ibound i 0 grid.layers)

-- the numbers at column i
abbrev pub source : Area → ℕ → EvapSource
source a i = record { rate = dec_at a.rates i; surface = dec_at a.surfaces i; depth = dec_at a.depths i }

abbrev pub cell_tested : List ℕ → Grid → ℕ → Option Code → Result (Unit {0}) Refusal
cell_tested file grid c None = Ok tt
cell_tested file grid c (Some code) = Err (refusal_at code file grid c)

-- the chosen cell is tested if it is active
abbrev pub column_tested : List ℕ → Grid → List ℤ → Area → ℕ → Option ℕ → Result (Unit {0}) Refusal
column_tested file grid ibound a i None = Ok tt
column_tested file grid ibound a i (Some c) = cell_tested file grid c (if is_nonzero (int_at ibound c) then evap_fault (source a i) else None)

abbrev pub column_step : List ℕ → Grid → List ℤ → ℤ → Area → ℕ → Unit {0} → Result (Unit {0}) Refusal
column_step file grid ibound option a i s = column_tested file grid ibound a i (chosen_cell grid ibound option a.layers i)

-- the first column that fails is refused
unfoldable pub columns_tested : List ℕ → Grid → List ℤ → ℤ → Area → Result (Unit {0}) Refusal
columns_tested file grid ibound option a = each_number (column_step file grid ibound option a) 0 (layer_size grid) tt

-- SURF, EVTR, EXDP, and under option 2 IEVT
abbrev pub area_in : Stresses → Area
area_in s = record { surfaces = s.surf; rates = s.evtr; depths = s.exdp; layers = s.ievt }

abbrev pub evaporation_arrays : ArrayKind
evaporation_arrays = record {
  evaporates = true;
  area = area_in;
  put = λ s area. record s { surf = area.surfaces; evtr = area.rates; exdp = area.depths; ievt = area.layers };
  test = columns_tested;
}

-- the model with NEVTOP and the arrays of its periods
abbrev pub with_evaporation : FlowModel → ArrayFile → FlowModel
with_evaporation m a = record m { nevtop = a.option; periods = a.periods }

unfoldable pub evt_of : FileSet → List ℕ → List ℕ → FlowModel → Result FlowModel Refusal
evt_of files file bytes m = do
  arrays ← arrays_in evaporation_arrays files file bytes m.grid m.ibound m.periods
  Ok (with_evaporation m arrays)
