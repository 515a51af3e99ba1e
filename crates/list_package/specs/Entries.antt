-- An entry of a list: Layer Row Column, and the numbers of its package (TM 6-A16, WEL, RIV, DRN, GHB, CHD).
use Rattle.std.specs.Prelude.{ℕ, ◌-◌, ℤ, Bool, true, false, ◌||◌, List, length, Option, Some, None, Result, Ok, Err, if◌then◌else◌, cond, codes, replicate}
use Rattle.std.specs.Prelude.{slice_index_or, slice_set, not, ◌&&◌, nat_lt, [], ◌∷◌, is_some}
use Rattle.outside.specs.{refusal, words, declared.codes.Code.Code, declared.codes.Code.TheVariants.OutOfProfile, declared.codes.Code.TheVariants.CellOutside}
use Rattle.outside.specs.{declared.codes.Code.TheVariants.BadProperty, declared.inputs.Refusal.Refusal}
use Rattle.record_lines.specs.{begins_with, line_at, Left, ◌>>=◌, repeated_reading, left_from, without_comments, for_each}
use Rattle.array_reader.specs.{number_at, integer, number}
use Rattle.model_types.specs.{declared.grid.Grid.Grid, declared.grid.CellId.CellId, cell_count, cell_number, dec_at, declared.period.Period.Period}
use Rattle.model_types.specs.{declared.limits.Limits.Limits, declared.model.FlowModel.FlowModel}
use Rattle.number_limits.specs.{within, is_one, is_same_number}
use Rattle.dis_package.specs.{inside}
use Rattle.list_package.specs.{Kinds.Kind, Kinds.first_fault, Kinds.with_list, declared.columns.Column.TheVariants.Head, Headers.header_of, Headers.item_line}
use Rattle.list_package.specs.{declared.header.Count.Count, declared.header.Count.TheVariants.Entries, declared.header.Count.TheVariants.Again}
use Rattle.std.specs.List.{list_all}
use Rattle.model_types.specs.declared.entry.Given.{Given}

-- the cell in a layer, a row and a column, counted from 1, which must be in the grid
unfoldable pub cell_at : List ℕ → ℕ → Grid → ℤ → ℤ → ℤ → Result CellId Refusal
cell_at file line grid layer row col = do
  k ← inside (within layer grid.layers) (refusal CellOutside file line)
  i ← inside (within row grid.rows) (refusal CellOutside file line)
  j ← inside (within col grid.cols) (refusal CellOutside file line)
  Ok (record { 0 = cell_number grid (k - 1) (i - 1) (j - 1) })

abbrev pub test_result : Option Code → List ℕ → ℕ → Result (Unit {0}) Refusal
test_result None file line = Ok tt
test_result (Some code) file line = Err (refusal code file line)

-- The entry that the words of a line make, with its cell. All words are read; then the cell is tested, then the
-- numbers. Last, in a list that may name a cell at most once, the cell must not be marked.
unfoldable pub entry_of : {E : Type 0} → Kind E → List ℕ → ℕ → Grid → List Bool → List (List ℕ) → Result (E × CellId) Refusal
entry_of kind file line grid marks words = do
  layer ← number_at integer file line words
  row ← number_at integer file line layer.1
  col ← number_at integer file line row.1
  numbers ← repeated_reading (length kind.columns) (number_at number file line) col.1
  cell ← cell_at file line grid layer.0 row.0 col.0
  tested ← test_result (first_fault kind.columns numbers.0) file line
  if slice_index_or marks cell.0 false then Err (refusal BadProperty file line) else Ok (kind.entry cell numbers.0, cell)

-- a line in place of entries that this program doesn't read
abbrev pub is_left_out : List (List ℕ) → Bool
is_left_out words = begins_with (codes "OPEN/CLOSE") words || (begins_with (codes "EXTERNAL") words || begins_with (codes "SFAC") words)

-- one entry of a list, whose cell is marked
unfoldable pub entry_at : {E : Type 0} → Kind E → List ℕ → Grid → (List Bool × Left) → Result (E × (List Bool × Left)) Refusal
entry_at kind file grid s = do
  line ← line_at file s.1
  if is_left_out (words line.0.bytes) then Err (refusal OutOfProfile file line.0.number)
      else (entry_of kind file line.0.number grid s.0 (words line.0.bytes) >>= λ e. Ok (e.0, (slice_set s.0 e.1.0 true, line.1)))

-- the marks of a new list: one for each cell where a list may name a cell at most once
abbrev pub no_marks : {E : Type 0} → Kind E → Grid → List Bool
no_marks kind grid = replicate (cond kind.once (cell_count grid) 0) false

abbrev pub without_marks : {X : Type 0} → Result (X × (List Bool × Left)) Refusal → Result (X × Left) Refusal
without_marks read = read >>= λ x. Ok (x.0, x.1.1)

-- a list of this many entries
unfoldable pub new_list : {E : Type 0} → Kind E → List ℕ → Grid → ℕ → Left → Result (List E × Left) Refusal
new_list kind file grid n left = without_marks (repeated_reading n (entry_at kind file grid) (no_marks kind grid, left))

-- Time-variant specified heads: Shead Ehead after Layer Row Column (TM 6-A16, CHD). That a list names a cell at most
-- once, and the rule of growing steps, are this program's own.
-- an entry whose two heads are the same number
abbrev pub is_level : Given → Bool
is_level x = is_same_number x.shead x.ehead

-- a steady period of more than one step whose TSMULT isn't 1
abbrev pub is_growing : Period → Bool
is_growing p = p.steady && (nat_lt 1 p.nstp && not (is_one p.tsmult))

-- in such a period no head may change
abbrev pub suits_heads : Period → List Given → Bool
suits_heads p list = if is_growing p then list_all is_level list else true

abbrev pub given_heads : Kind Given
given_heads =
    record {
      columns = Head ∷ Head ∷ [];
      entry = λ cell xs. record { cell = cell; shead = dec_at xs 0; ehead = dec_at xs 1 };
      place = λ x. x.cell.0;
      once = true;
      suits = suits_heads;
      list = λ s. s.given;
      put = λ s list. record s { given = list };
    }

-- A file of a list package (TM 6-A16, WEL, RIV, DRN, GHB, CHD).
-- the list that follows, or the last one again
abbrev pub list_of : {E : Type 0} → Kind E → List ℕ → Grid → Count → Option (List E) → Left → Result (List E × Left) Refusal
list_of kind file grid (Entries n) last left = new_list kind file grid n left
list_of kind file grid Again None left = Ok ([], left)
list_of kind file grid Again (Some list) left = Ok (list, left)

-- a period's list, after this last one
unfoldable pub list_at : {E : Type 0} → Limits → Kind E → List ℕ → Grid → Period → (Option (List E) × Left) → Result (List E × (Option (List E) × Left)) Refusal
list_at limits kind file grid period s = do
  line ← line_at file s.1
  count ← header_of limits file line.0.number (is_some s.0) (words line.0.bytes)
  list ← list_of kind file grid count s.0 line.1
  if kind.suits period list.0 then Ok (list.0, (Some list.0, list.1)) else Err (refusal OutOfProfile file line.0.number)

-- the period with it
unfoldable pub period_at : {E : Type 0} → Limits → Kind E → List ℕ → Grid → Period → (Option (List E) × Left) →
    Result (Period × (Option (List E) × Left)) Refusal
period_at limits kind file grid period s = do
  list ← list_at limits kind file grid period s
  Ok (with_list kind period list.0, list.1)

abbrev pub without_state : {X S : Type 0} → Result (X × S) Refusal → Result X Refusal
without_state read = read >>= λ x. Ok x.0

-- the periods with their lists
unfoldable pub periods_of : {E : Type 0} → Limits → Kind E → List ℕ → Grid → List Period → Left → Result (List Period) Refusal
periods_of limits kind file grid periods left = without_state (for_each (period_at limits kind file grid) periods (None, left))

-- the maximum count, which is read and not compared, and a list for each period
unfoldable pub lists_of : {E : Type 0} → Limits → Kind E → List ℕ → List ℕ → Grid → List Period → Result (List Period) Refusal
lists_of limits kind file bytes grid periods = do
  line ← item_line file (without_comments (left_from 1 bytes))
  most ← number_at integer file line.0.number (words line.0.bytes)
  periods_of limits kind file grid periods line.1

-- the model with these periods
unfoldable pub package_of : {E : Type 0} → Limits → Kind E → List ℕ → List ℕ → FlowModel → Result FlowModel Refusal
package_of limits kind file bytes m = do
  periods ← lists_of limits kind file bytes m.grid m.periods
  Ok (record m { periods = periods })
