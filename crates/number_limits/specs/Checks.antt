-- Checks over the cells of a model, by ascending number: the first cell that fails is refused, with line 0 and its layer, row and column, counted from 1.
use Rattle.std.specs.Prelude.{ℕ, List, Option, Some, None, Result, Ok, Err, ◌+◌, Bool, not, ◌&&◌, ◌||◌, nat_lt, nat_le, if◌then◌else◌}
use Rattle.outside.specs.{declared.codes.Code.Code, declared.inputs.Refusal.Refusal, declared.codes.Code.TheVariants.BadThickness}
use Rattle.outside.specs.{declared.codes.Code.TheVariants.BadProperty, declared.codes.Code.TheVariants.HeadTooLarge}
use Rattle.record_lines.specs.{each_number}
use Rattle.model_types.specs.{declared.grid.Grid.Grid, declared.model.FlowModel.FlowModel, cell_count, place, layer_size, dec_at, is_active, has_bed, top_at}
use Rattle.model_types.specs.{bottom_at, lowest}
use Rattle.number_limits.specs.declared.passing.Check.{Check}
use Rattle.number_limits.specs.Room.{is_head, is_positive, is_same_number, is_thick}
use Rattle.number_limits.specs.declared.passing.Check.TheVariants.{Thickness, StartHead, Properties}

-- The tests of active cells. The limits are this program's own.
module _ (m : FlowModel) (c : ℕ) where
  -- whether the bed below the cell is checked: the cell below it is active, and the bed's two elevations aren't the same number
  abbrev pub is_checked_bed : Bool
  is_checked_bed = has_bed m c && (nat_lt (c + layer_size m.grid) (cell_count m.grid) &&
      (is_active m (c + layer_size m.grid) && not (is_same_number (bottom_at m c) (lowest m c))))

module _ (m : FlowModel) (c : ℕ) where
  -- the cell and the bed below it are thick enough
  abbrev pub is_thick_cell : Bool
  is_thick_cell = is_thick (top_at m c) (bottom_at m c) && (not (is_checked_bed m c) || is_thick (bottom_at m c) (lowest m c))

  -- STRT is a head
  abbrev pub has_head : Bool
  has_head = is_head (dec_at m.strt c)

  -- HK and HANI are above 0, VKA too where there are several layers, SS isn't below 0, and VKCB of the bed is above 0
  abbrev pub has_good_properties : Bool
  has_good_properties =
      is_positive (dec_at m.hk c) && (is_positive (dec_at m.hani c)
      && ((nat_le m.grid.layers 1 || is_positive (dec_at m.vka c))
      && (not (dec_at m.ss c).neg && (not (is_checked_bed m c) || is_positive (dec_at m.vkcb c)))))

abbrev pub passes : Check → FlowModel → ℕ → Bool
passes Thickness m c = is_thick_cell m c
passes StartHead m c = has_head m c
passes Properties m c = has_good_properties m c

abbrev pub code_of : Check → Code
code_of Thickness = BadThickness
code_of StartHead = HeadTooLarge
code_of Properties = BadProperty

-- the fault of a cell; None where it isn't active or passes
unfoldable pub fault_at : Check → FlowModel → ℕ → Option Code
fault_at check m c = if not (is_active m c) || passes check m c then None else Some (code_of check)

abbrev pub at_cell : Grid → List ℕ → ℕ → Option Code → Result (Unit {0}) Refusal
at_cell g file c None = Ok tt
at_cell g file c (Some code) = Err (record { code = code; file = file; line = 0; at = Some (place g c) })

abbrev pub cell_step : FlowModel → List ℕ → Check → ℕ → Unit {0} → Result (Unit {0}) Refusal
cell_step m file check c s = at_cell m.grid file c (fault_at check m c)

unfoldable pub check_result : FlowModel → List ℕ → Check → Result (Unit {0}) Refusal
check_result m file check = each_number (cell_step m file check) 0 (cell_count m.grid) tt
