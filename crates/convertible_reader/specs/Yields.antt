-- The test of SY over the cells of a model.
use Rattle.std.specs.Prelude.{ℕ, List, Bool, ◌&&◌, Result, Option, Some, None, if◌then◌else◌}
use Rattle.outside.specs.{declared.codes.Code.TheVariants.BadProperty, declared.inputs.Refusal.Refusal}
use Rattle.record_lines.specs.{each_number}
use Rattle.model_types.specs.{declared.model.FlowModel.FlowModel, cell_count, dec_at, is_active}
use Rattle.number_limits.specs.{at_cell}
use Rattle.water_table.specs.declared.convertible_layers.ConvertibleLayers.{ConvertibleLayers}

-- an active cell with SY below 0
abbrev pub is_yield_below_0 : FlowModel → ConvertibleLayers → ℕ → Bool
is_yield_below_0 m w c = is_active m c && (dec_at w.sy c).neg

abbrev pub yield_step : FlowModel → ConvertibleLayers → List ℕ → ℕ → Unit {0} → Result (Unit {0}) Refusal
yield_step m w file c s = at_cell m.grid file c (if is_yield_below_0 m w c then Some BadProperty else None)

-- the first such cell, by ascending number, is refused with line 0 and its place
unfoldable pub yields_tested : FlowModel → ConvertibleLayers → List ℕ → Result (Unit {0}) Refusal
yields_tested m w file = each_number (yield_step m w file) 0 (cell_count m.grid) tt
