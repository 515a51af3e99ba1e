-- A file of a package of arrays (TM 6-A16, RCH and EVT).
use Rattle.std.specs.Prelude.{ℕ, ℤ, Bool, List, [], Result, Ok, if◌then◌else◌, ◌≡◌, ◌<◌, true, false, All, length}
use Rattle.outside.specs.{FileSet, words, declared.inputs.Refusal.Refusal, declared.codes.Code.Code, declared.inputs.TextFault.TextFault}
use Rattle.record_lines.specs.{Left, left_from, without_comments, ◌>>=◌, for_each}
use Rattle.array_reader.specs.{number_at, integer}
use Rattle.model_types.specs.{declared.grid.Grid.Grid, declared.period.Period.Period, layer_size, int_at, is_int}
use Rattle.list_package.specs.{item_line, without_state}
use Rattle.period_arrays.specs.{Areas.area_at, Areas.nothing_yet, Areas.option_at, Areas.ArrayKind, Areas.contents, Areas.with_area, Areas.refusal_at}
use Rattle.period_arrays.specs.{Areas.is_layer, declared.area.Area.Area, declared.area.InForce.InForce, declared.read.ArrayFile.ArrayFile}
use Rattle.decimal_input.specs.{declared.dec.Dec.Dec, IsDec}
use Rattle.array_text.specs.{IsShort}
use Rattle.outside.specs.declared.inputs.TextFault.TheVariants as texts

-- a period's arrays, which are tested once all of them are read
unfoldable pub tested_area : ArrayKind → FileSet → List ℕ → Grid → List ℤ → ℤ → (InForce × Left) → Result (Area × (InForce × Left)) Refusal
tested_area kind files file grid ibound option s = do
  area ← area_at (contents kind option) files file grid s
  passed ← kind.test file grid ibound option area.0
  Ok area

-- the period with them
unfoldable pub period_at : ArrayKind → FileSet → List ℕ → Grid → List ℤ → ℤ → Period → (InForce × Left) → Result (Period × (InForce × Left)) Refusal
period_at kind files file grid ibound option period s = do
  area ← tested_area kind files file grid ibound option s
  Ok (with_area kind period area.0, area.1)

unfoldable pub periods_of : ArrayKind → FileSet → List ℕ → Grid → List ℤ → ℤ → List Period → Left → Result (List Period) Refusal
periods_of kind files file grid ibound option periods left =
    without_state (for_each (period_at kind files file grid ibound option) periods (nothing_yet, left))

-- IEVTCB, which is read and not used
abbrev pub unit_if : Bool → List ℕ → ℕ → List (List ℕ) → Result (Unit {0}) Refusal
unit_if present file line words = if present then (number_at integer file line words >>= λ unit. Ok tt) else Ok tt

-- NRCHOP, or NEVTOP and IEVTCB
unfoldable pub option_line : ArrayKind → List ℕ → Left → Result (ℤ × Left) Refusal
option_line kind file left = do
  line ← item_line file left
  option ← option_at file line.0.number (words line.0.bytes)
  unit ← unit_if kind.evaporates file line.0.number option.1
  Ok (option.0, line.1)

-- the option, and the arrays of each stress period
unfoldable pub arrays_in : ArrayKind → FileSet → List ℕ → List ℕ → Grid → List ℤ → List Period → Result ArrayFile Refusal
arrays_in kind files file bytes grid ibound periods = do
  option ← option_line kind file (without_comments (left_from 1 bytes))
  whole ← periods_of kind files file grid ibound option.0 periods option.1
  Ok (record { option = option.0; periods = whole })

-- What is known of arrays that were read, whatever the folder returned.
-- an array of numbers for one layer
abbrev pub IsReals : Grid → List Dec → Type 0
IsReals grid xs = (length xs ≡ layer_size grid) × All IsDec xs

-- an array of layers for one layer
abbrev pub CoversLayer : Grid → List ℤ → Type 0
CoversLayer grid xs = length xs ≡ layer_size grid

-- a refusal of a cell, or lack of memory for the file's name
abbrev pub IsCellRefusal : Code → List ℕ → Grid → ℕ → TextFault → Type 0
IsCellRefusal code file grid cell (texts.Refused r) = r ≡ refusal_at code file grid cell
IsCellRefusal code file grid cell texts.Memory = Unit {0}

-- IRCH or IEVT: layers of the grid, or 0, under option 2; else nothing
pub record IsLayers (g : Grid) (option : ℤ) (xs : List ℤ) : Type 0 where
  pub none : is_int option 2 ≡ false → xs ≡ []
  pub whole : is_int option 2 ≡ true → CoversLayer g xs
  pub short : All IsShort xs
  pub layers : is_int option 2 ≡ true → (i : ℕ) → i < layer_size g → is_layer g (int_at xs i) ≡ true

-- the arrays of a period by an option
pub record IsArea (evaporates : Bool) (g : Grid) (option : ℤ) (area : Area) : Type 0 where
  pub surfaces : evaporates ≡ true → IsReals g area.surfaces
  pub rates : IsReals g area.rates
  pub depths : evaporates ≡ true → IsReals g area.depths
  pub layers : IsLayers g option area.layers

-- arrays of a kind by its option, which pass their test whatever the file's name
pub record HasArrays (kind : ArrayKind) (g : Grid) (ibound : List ℤ) (option : ℤ) (area : Area) : Type 0 where
  pub is : IsArea kind.evaporates g option area
  pub passed : (file : List ℕ) → kind.test file g ibound option area ≡ Ok tt

-- the arrays of the period before, if there is one
pub record IsInForce (evaporates : Bool) (g : Grid) (option : ℤ) (before : InForce) : Type 0 where
  pub area : before.listed ≡ true → IsArea evaporates g option before.area
  pub none : is_int option 2 ≡ false → before.area.layers ≡ []
