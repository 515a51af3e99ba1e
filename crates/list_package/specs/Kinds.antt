-- The trait of a list package: the numbers of its entries, and where its lists go.
use Rattle.std.specs.Prelude.{ℕ, Bool, List, [], ◌∷◌, Option, Some, None, if◌then◌else◌, true, false, ◌≡◌, ◌<◌, ◌≤◌, All, length}
use Rattle.std.specs.List.{AllPairs}
use Rattle.decimal_input.specs.{IsDec, declared.dec.Dec.Dec}
use Rattle.outside.specs.{declared.codes.Code.Code, declared.codes.Code.TheVariants.HeadTooLarge, declared.codes.Code.TheVariants.BadProperty}
use Rattle.model_types.specs.{declared.entry.Entry.Entry, declared.entry.Entry.TheVariants.Well, declared.entry.Entry.TheVariants.River}
use Rattle.model_types.specs.{declared.entry.Entry.TheVariants.Drain, declared.entry.Entry.TheVariants.General, declared.grid.CellId.CellId}
use Rattle.model_types.specs.{declared.limits.Limits.Limits, declared.period.Period.Period, declared.period.Stresses.Stresses, dec_at, cell_of, most_entries}
use Rattle.number_limits.specs.{is_head}
use Rattle.list_package.specs.declared.columns.Column.{Column}
use Rattle.list_package.specs.declared.columns.Column.TheVariants.{Rate, Head, Conductance}
use Rattle.list_package.specs.declared.entries.ListKind.{ListKind}
use Rattle.list_package.specs.declared.entries.ListKind.TheVariants.{Wells, Rivers, Drains, Generals}

-- a head is tested for its magnitude, and a conductance must not be below 0
abbrev pub column_fault : Column → Dec → Option Code
column_fault Rate x = None
column_fault Head x = if is_head x then None else Some HeadTooLarge
column_fault Conductance x = if x.neg then Some BadProperty else None

abbrev pub or_later : Option Code → Option Code → Option Code
or_later None later = later
or_later (Some code) later = Some code

-- the first test that numbers of these columns fail
abbrev pub first_fault : List Column → List Dec → Option Code
first_fault [] xs = None
first_fault (c ∷ cs) [] = None
first_fault (c ∷ cs) (x ∷ xs) = or_later (column_fault c x) (first_fault cs xs)

-- E is the entry
pub record Kind (E : Type 0) : Type 0 where
  -- the numbers of an entry after Layer Row Column
  pub columns : List Column
  -- the entry of a cell with these numbers, and an entry's cell
  pub entry : CellId → List Dec → E
  pub place : E → ℕ
  -- whether a list may name a cell at most once
  pub once : Bool
  -- whether a period may have this list
  pub suits : Period → List E → Bool
  -- a period's list, and its stresses with this list
  pub list : Stresses → List E
  pub put : Stresses → List E → Stresses

-- a period with this list
abbrev pub with_list : {E : Type 0} → Kind E → Period → List E → Period
with_list kind p xs = record p { stresses = kind.put p.stresses xs }

-- The packages of wells, rivers, drains and general heads (TM 6-A16, WEL, RIV, DRN, GHB).
-- WEL: Q; RIV: Stage Cond Rbot; DRN: Elevation Cond; GHB: Bhead Cond
abbrev pub columns_of : ListKind → List Column
columns_of Wells = Rate ∷ []
columns_of Rivers = Head ∷ Conductance ∷ Head ∷ []
columns_of Drains = Head ∷ Conductance ∷ []
columns_of Generals = Head ∷ Conductance ∷ []

abbrev pub entry_with : ListKind → CellId → List Dec → Entry
entry_with Wells cell xs = Well cell (dec_at xs 0)
entry_with Rivers cell xs = River cell (dec_at xs 0) (dec_at xs 1) (dec_at xs 2)
entry_with Drains cell xs = Drain cell (dec_at xs 0) (dec_at xs 1)
entry_with Generals cell xs = General cell (dec_at xs 0) (dec_at xs 1)

abbrev pub entries_in : ListKind → Stresses → List Entry
entries_in Wells s = s.wells
entries_in Rivers s = s.rivers
entries_in Drains s = s.drains
entries_in Generals s = s.generals

abbrev pub with_entries : ListKind → Stresses → List Entry → Stresses
with_entries Wells s xs = record s { wells = xs }
with_entries Rivers s xs = record s { rivers = xs }
with_entries Drains s xs = record s { drains = xs }
with_entries Generals s xs = record s { generals = xs }

abbrev pub kind_of : ListKind → Kind Entry
kind_of k = record {
  columns = columns_of k;
  entry = entry_with k;
  place = cell_of;
  once = false;
  suits = λ period list. true;
  list = entries_in k;
  put = with_entries k;
}

-- What is known of a list that was read.
-- x is the entry of a cell of the grid, with a number in canonical form for each column, which pass their tests
pub record IsEntry {E : Type 0} (kind : Kind E) (cells : ℕ) (x : E) : Type 0 where
  pub cell : CellId
  pub numbers : List Dec
  pub inside : cell.0 < cells
  pub count : length numbers ≡ length kind.columns
  pub canonical : All IsDec numbers
  pub passes : first_fault kind.columns numbers ≡ None
  pub is : x ≡ kind.entry cell numbers

-- two entries that name two cells
abbrev pub Differ : {E : Type 0} → Kind E → E → E → Type 0
Differ kind x y = kind.place x ≡ kind.place y → ⊥

-- a period's list: at most as many entries as the limits say; where a list may name a cell at most once, it does; and the period may have it
pub record IsListOf {E : Type 0} (limits : Limits) (kind : Kind E) (cells : ℕ) (p : Period) (xs : List E) : Type 0 where
  pub few : length xs ≤ most_entries limits
  pub entries : All (IsEntry kind cells) xs
  pub once : kind.once ≡ true → AllPairs (Differ kind) xs
  pub suits : kind.suits p xs ≡ true
