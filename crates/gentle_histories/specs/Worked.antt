-- The pumped cell of water_table, which 0.6 m and 0.25 m both balance: between its listed heads there is a gentle head that nearly does.
use Rattle.std.specs.Prelude.{[], ◌∷◌, ◌<◌, ◌^◌}
use Rattle.decimal_input.specs.{Ratio, ratio, Ratios.AtMost}
use Rattle.water_table.specs.{narrow_pair, pumped_layers, pumped_model}
use Rattle.gentle_histories.specs.Histories.{HasGentleHistory}

-- from 0.59999999 to 0.60000001 m, to less than 10^-9 m3/d or any smaller unit
abbrev pub PumpedCellHasHistory : Type 0
PumpedCellHasHistory = (unit : Ratio) → 0 < unit.num → AtMost unit (ratio 1 (10 ^ 9)) → HasGentleHistory unit pumped_model pumped_layers (narrow_pair ∷ [])
