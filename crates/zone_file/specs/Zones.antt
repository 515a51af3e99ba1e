-- The zone of each cell, from a file of arrays of integers. The file and its limits are this program's own; the
-- arrays are those of IBOUND (TM 6-A16, array reader U2DINT).
use Rattle.std.specs.Prelude.{ℕ, ℤ, pos, negsuc, ◌≤ℤ◌, Bool, false, not, nat_le, List, Option, Some, None, Result, Ok, Err, codes}
use Rattle.std.specs.List.{position}
use Rattle.outside.specs.{FileSet, file_at, declared.codes.Code.TheVariants.BadProperty, declared.inputs.Refusal.Refusal}
use Rattle.record_lines.specs.{name_at, left_from, ◌>>=◌}
use Rattle.array_reader.specs.{layers, whole}
use Rattle.model_types.specs.declared.grid.Grid.{Grid}
use Rattle.period_arrays.specs.{refusal_at}

-- a cell's zone is 1 to 999, or 0 where it is in none
abbrev pub IsZone : ℤ → Type 0
IsZone z = (pos 0 ≤ℤ z) × (z ≤ℤ pos 999)

-- the same as a test
abbrev pub is_zone : ℤ → Bool
is_zone (pos n) = nat_le n 999
is_zone (negsuc n) = false

-- a cell with another number is refused, with line 0 and its layer, row and column
abbrev pub wrong_at : List ℕ → Grid → Option ℕ → Result (Unit {0}) Refusal
wrong_at file grid None = Ok tt
wrong_at file grid (Some cell) = Err (refusal_at BadProperty file grid cell)

-- the first such cell, by ascending number of the cells
unfoldable pub zones_tested : List ℕ → Grid → List ℤ → Result (Unit {0}) Refusal
zones_tested file grid zones = wrong_at file grid (position (λ z. not (is_zone z)) zones)

-- The zones that a file gives the cells of a grid. A bad name of the file is refused with the file '-'. The file has
-- an array for each layer from its first line on; once all are read, all numbers are tested.
unfoldable pub zones_of : FileSet → Grid → List ℕ → Result (List ℤ) Refusal
zones_of files grid name = do
  file ← name_at (codes "-") 0 name
  bytes ← file_at files file
  zones ← layers whole files file grid.layers grid.rows grid.cols (left_from 1 bytes)
  tested ← zones_tested file grid zones.0
  Ok zones.0
