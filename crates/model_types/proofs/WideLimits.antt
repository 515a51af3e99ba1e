-- No limit is above the wide one.
use Rattle.model_types.proofs.Common.{◌≤◌, arith, most_layers, most_in_row, most_cells, most_entries}
use Rattle.model_types.specs.{declared.limits.Limits.Limits, declared.limits.Limits.TheVariants.Plain, declared.limits.Limits.TheVariants.Wide}

pub layers_few : (l : Limits) → most_layers l ≤ 1024
layers_few Plain = omega arith
layers_few Wide = omega arith

pub in_row_few : (l : Limits) → most_in_row l ≤ 4096
in_row_few Plain = omega arith
in_row_few Wide = omega arith

pub cells_few : (l : Limits) → most_cells l ≤ most_cells Wide
cells_few Plain = omega arith
cells_few Wide = omega arith

pub entries_few : (l : Limits) → most_entries l ≤ most_entries Wide
entries_few Plain = omega arith
entries_few Wide = omega arith
