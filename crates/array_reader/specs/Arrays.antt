-- Arrays with their control records, and plain lists.
use Rattle.std.specs.Prelude.{ℕ, ℤ, ◌*◌, List, Result, Ok, replicate, Err, Bool, if◌then◌else◌}
use Rattle.decimal_input.specs.{declared.dec.Dec.Dec, declared.dec.NumFault.NumFault}
use Rattle.outside.specs.{FileSet, file_at, words, refusal, declared.inputs.Refusal.Refusal, declared.codes.Code.TheVariants.EndOfFile}
use Rattle.outside.specs.{declared.codes.Code.TheVariants.BadNumber, declared.codes.Code.TheVariants.OutOfProfile}
use Rattle.record_lines.specs.{line_at, Left, left_from, ◌>>=◌, appended_readings, repeated_reading, each_number, Taking, beginning, next_value}
use Rattle.array_reader.specs.Control.{Control, constant, internal, named, control_at, at_line}
use Rattle.array_reader.specs.Numbers.{Kind, multiplied_value, real, whole, integer}
use Rattle.record_lines.specs.declared.free.FreeFault.{FreeFault}
use Rattle.model_types.specs.{is_nonzero}
use Rattle.record_lines.specs.declared.free.FreeFault.TheVariants as free

-- Free lists of numbers.
-- the refusal for a fault of a free list in this file
abbrev pub free_refusal : List ℕ → FreeFault → Refusal
free_refusal file (free.EndOfFile line) = refusal EndOfFile file line
free_refusal file (free.BadNumber line) = refusal BadNumber file line

abbrev pub in_file : {X : Type 0} → List ℕ → Result X FreeFault → Result X Refusal
in_file file (Ok x) = Ok x
in_file file (Err fault) = Err (free_refusal file fault)

-- the next value of a free list, with its line
unfoldable pub value_at : {X : Type 0} → (List ℕ → Result X NumFault) → List ℕ → (Taking × Left) → Result ((X × ℕ) × (Taking × Left)) Refusal
value_at read file s = do
  v ← in_file file (next_value s.0 s.1)
  x ← at_line file v.0.1 (read v.0.0)
  Ok ((x, v.0.1), v.1)

-- the same without its line
unfoldable pub value_alone : {X : Type 0} → (List ℕ → Result X NumFault) → List ℕ → (Taking × Left) → Result (X × (Taking × Left)) Refusal
value_alone read file s = value_at read file s >>= λ x. Ok (x.0.0, x.1)

abbrev pub left_of : {X : Type 0} → Result (X × (Taking × Left)) Refusal → Result (X × Left) Refusal
left_of read = read >>= λ x. Ok (x.0, x.1.1)

-- a free list of this many values, from a new line
unfoldable pub free_list : {X : Type 0} → (List ℕ → Result X NumFault) → List ℕ → ℕ → Left → Result (List X × Left) Refusal
free_list read file count left = left_of (repeated_reading count (value_alone read file) (beginning, left))

-- one free list for each row
unfoldable pub free_rows : {X : Type 0} → (List ℕ → Result X NumFault) → List ℕ → ℕ → ℕ → Left → Result (List X × Left) Refusal
free_rows read file rows cols left = appended_readings rows (free_list read file cols) left

-- rows * cols values by their control record, row by row; the values of a named file begin at its first line
abbrev pub values_of : {X : Type 0} → Kind X → FileSet → List ℕ → ℕ → ℕ → Left → Control X → Result (List X × Left) Refusal
values_of kind files file rows cols left (constant value) = Ok (replicate (rows * cols) value, left)
values_of kind files file rows cols left (internal by) = free_rows (multiplied_value kind by) file rows cols left
values_of kind files file rows cols left (named name by) = do
  bytes ← file_at files name
  values ← free_rows (multiplied_value kind by) name rows cols (left_from 1 bytes)
  Ok (values.0, left)

-- an array with its control record, and that record's line
unfoldable pub array_at : {X : Type 0} → Kind X → FileSet → List ℕ → ℕ → ℕ → Left → Result ((List X × ℕ) × Left) Refusal
array_at kind files file rows cols left = do
  line ← line_at file left
  control ← control_at kind.reading file line.0.number (words line.0.bytes)
  values ← values_of kind files file rows cols line.1 control
  Ok ((values.0, line.0.number), values.1)

abbrev pub without_line : {X : Type 0} → Result ((List X × ℕ) × Left) Refusal → Result (List X × Left) Refusal
without_line read = read >>= λ x. Ok (x.0.0, x.1)

-- a one-dimensional array, which is one free list
unfoldable pub reals : FileSet → List ℕ → ℕ → Left → Result (List Dec × Left) Refusal
reals files file count left = without_line (array_at real files file 1 count left)

-- a layer: one free list for each row of the grid
unfoldable pub layer_array : {X : Type 0} → Kind X → FileSet → List ℕ → ℕ → ℕ → Left → Result (List X × Left) Refusal
layer_array kind files file rows cols left = without_line (array_at kind files file rows cols left)

-- a layer of numbers
unfoldable pub real_layer : FileSet → List ℕ → ℕ → ℕ → Left → Result (List Dec × Left) Refusal
real_layer files file rows cols left = layer_array real files file rows cols left

-- a layer of integers
unfoldable pub integer_layer : FileSet → List ℕ → ℕ → ℕ → Left → Result (List ℤ × Left) Refusal
integer_layer files file rows cols left = layer_array whole files file rows cols left

-- this many layers, one array for each, as one list
unfoldable pub layers : {X : Type 0} → Kind X → FileSet → List ℕ → ℕ → ℕ → ℕ → Left → Result (List X × Left) Refusal
layers kind files file count rows cols left = appended_readings count (layer_array kind files file rows cols) left

-- Items that several package files have.
-- the next value of a free list, an integer that must be 0: any other is refused on its own line
unfoldable pub zero_at : List ℕ → (Taking × Left) → Result (ℤ × (Taking × Left)) Refusal
zero_at file s = do
  z ← value_at integer file s
  if is_nonzero z.0.0 then Err (refusal OutOfProfile file z.0.1) else Ok (z.0.0, z.1)

unfoldable pub zero_step : List ℕ → ℕ → (Taking × Left) → Result (Taking × Left) Refusal
zero_step file i s = zero_at file s >>= λ z. Ok z.1

-- a free list of this many of them
unfoldable pub zero_list : List ℕ → ℕ → Left → Result (Unit {0} × Left) Refusal
zero_list file count left = each_number (zero_step file) 0 count (beginning, left) >>= λ s. Ok (tt, s.1)

-- a layer of numbers where the file has it, else the same number in each of its cells
unfoldable pub layer_or : FileSet → List ℕ → ℕ → ℕ → Bool → Dec → Left → Result (List Dec × Left) Refusal
layer_or files file rows cols is_there other left = if is_there then real_layer files file rows cols left else Ok (replicate (rows * cols) other, left)
