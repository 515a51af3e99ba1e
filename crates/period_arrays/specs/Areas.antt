-- The arrays of RCH and EVT that are in force in a stress period (TM 6-A16, RCH and EVT).
use Rattle.std.specs.Prelude.{ℕ, Bool, true, false, List, [], Result, Ok, if◌then◌else◌, ℤ, pos, negsuc, not, ◌&&◌, nat_lt, nat_le, Err, Some}
use Rattle.outside.specs.{FileSet, words, refusal, declared.inputs.Refusal.Refusal, declared.codes.Code.TheVariants.OutOfProfile}
use Rattle.outside.specs.{declared.codes.Code.TheVariants.NothingToReuse, declared.codes.Code.TheVariants.CellOutside, declared.codes.Code.Code}
use Rattle.record_lines.specs.{line_at, Left, ◌>>=◌, each_number}
use Rattle.array_reader.specs.{real_layer, integer_layer, number_at, integer}
use Rattle.model_types.specs.{declared.grid.Grid.Grid, layer_size, place, int_at, is_int, declared.period.Period.Period, declared.period.Stresses.Stresses}
use Rattle.period_arrays.specs.{declared.area.Area.Area, declared.area.InForce.InForce, declared.flags.Contents.Contents}
use Rattle.period_arrays.specs.{declared.flags.ArraysReadAnew.ArraysReadAnew}

-- Words of the lines before arrays (TM 6-A16, RCH and EVT).
-- NRCHOP or NEVTOP, the option that chooses a cell in each column of layers: 1, 2 or 3
abbrev pub is_option : ℤ → Bool
is_option (pos n) = nat_lt 0 n && nat_le n 3
is_option (negsuc n) = false

unfoldable pub option_at : List ℕ → ℕ → List (List ℕ) → Result (ℤ × List (List ℕ)) Refusal
option_at file line words = do
  z ← number_at integer file line words
  if is_option z.0 then Ok z else Err (refusal OutOfProfile file line)

abbrev pub is_negative : ℤ → Bool
is_negative (pos n) = false
is_negative (negsuc n) = true

-- whether an array is read anew; where the flag is below 0 the last array is used again, and there must be one
unfoldable pub flag_at : List ℕ → ℕ → Bool → List (List ℕ) → Result (Bool × List (List ℕ)) Refusal
flag_at file line listed words = do
  z ← number_at integer file line words
  if is_negative z.0 && not listed then Err (refusal NothingToReuse file line) else Ok (not (is_negative z.0), z.1)

-- a flag that a file has only where it has the array
abbrev pub flag_if : Bool → List ℕ → ℕ → Bool → List (List ℕ) → Result (Bool × List (List ℕ)) Refusal
flag_if present file line listed words = if present then flag_at file line listed words else Ok (false, words)

-- INSURF INEVTR INEXDP INIEVT; of recharge INRECH INIRCH; the layers' flag is there only under option 2
unfoldable pub flags_of : Contents → List ℕ → ℕ → Bool → List (List ℕ) → Result ArraysReadAnew Refusal
flags_of contents file line listed words = do
  surface ← flag_if contents.evaporates file line listed words
  rate ← flag_at file line listed surface.1
  depth ← flag_if contents.evaporates file line listed rate.1
  layer ← flag_if contents.layered file line listed depth.1
  Ok (record { surface = surface.0; rate = rate.0; depth = depth.0; layer = layer.0 })

-- Arrays that name a layer for each column of layers: IRCH and IEVT (TM 6-A16, RCH and EVT). That 0 names none is this program's own.
-- the refusal of a cell, with line 0 and its layer, row and column
abbrev pub refusal_at : Code → List ℕ → Grid → ℕ → Refusal
refusal_at code file grid cell = record { code = code; file = file; line = 0; at = Some (place grid cell) }

-- from 0 to the number of layers
abbrev pub is_layer : Grid → ℤ → Bool
is_layer grid (pos n) = nat_le n grid.layers
is_layer grid (negsuc n) = false

-- any other number is refused at the cell of layer 1
abbrev pub layer_step : List ℕ → Grid → List ℤ → ℕ → Unit {0} → Result (Unit {0}) Refusal
layer_step file grid xs i s = if is_layer grid (int_at xs i) then Ok tt else Err (refusal_at CellOutside file grid i)

-- the first number of an array that is refused
unfoldable pub layers_tested : List ℕ → Grid → List ℤ → Result (Unit {0}) Refusal
layers_tested file grid xs = each_number (layer_step file grid xs) 0 (layer_size grid) tt

-- an array of layers, which is tested as soon as it is read
unfoldable pub layers_at : FileSet → List ℕ → Grid → Left → Result (List ℤ × Left) Refusal
layers_at files file grid left = do
  xs ← integer_layer files file grid.rows grid.cols left
  good ← layers_tested file grid xs.0
  Ok xs

abbrev pub no_area : Area
no_area = record { surfaces = []; rates = []; depths = []; layers = [] }

-- before the first period
abbrev pub nothing_yet : InForce
nothing_yet = record { listed = false; area = no_area }

-- an array that is read anew, or that of the period before
abbrev pub array_or : {X : Type 0} → (Left → Result (List X × Left) Refusal) → Bool → List X → Left → Result (List X × Left) Refusal
array_or read anew before left = if anew then read left else Ok (before, left)

-- SURF, EVTR, EXDP and IEVT; of recharge RECH and IRCH
unfoldable pub arrays_of : FileSet → List ℕ → Grid → ArraysReadAnew → Area → Left → Result (Area × Left) Refusal
arrays_of files file grid flags before left = do
  surfaces ← array_or (real_layer files file grid.rows grid.cols) flags.surface before.surfaces left
  rates ← array_or (real_layer files file grid.rows grid.cols) flags.rate before.rates surfaces.1
  depths ← array_or (real_layer files file grid.rows grid.cols) flags.depth before.depths rates.1
  layers ← array_or (layers_at files file grid) flags.layer before.layers depths.1
  Ok (record { surfaces = surfaces.0; rates = rates.0; depths = depths.0; layers = layers.0 }, layers.1)

-- a period's line and its arrays, which are then in force
unfoldable pub area_at : Contents → FileSet → List ℕ → Grid → (InForce × Left) → Result (Area × (InForce × Left)) Refusal
area_at contents files file grid s = do
  line ← line_at file s.1
  flags ← flags_of contents file line.0.number s.0.listed (words line.0.bytes)
  area ← arrays_of files file grid flags s.0.area line.1
  Ok (area.0, (record { listed = true; area = area.0 }, area.1))

-- The trait of a package of arrays: where its arrays go, and how those of a period are tested.
pub record ArrayKind : Type 0 where
  -- whether its files have surfaces and extinction depths, and a unit after the option
  pub evaporates : Bool
  -- a period's arrays, and its stresses with these arrays
  pub area : Stresses → Area
  pub put : Stresses → Area → Stresses
  -- the test of a period's arrays, by the file's name, the grid, IBOUND and the option
  pub test : List ℕ → Grid → List ℤ → ℤ → Area → Result (Unit {0}) Refusal

-- what a file has beside its rates: it names layers under option 2 alone
abbrev pub contents : ArrayKind → ℤ → Contents
contents kind option = record { evaporates = kind.evaporates; layered = is_int option 2 }

-- a period with these arrays
abbrev pub with_area : ArrayKind → Period → Area → Period
with_area kind p area = record p { stresses = kind.put p.stresses area }
