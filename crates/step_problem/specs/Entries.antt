-- The data of a step's problem, as lists.
use Rattle.std.specs.Prelude.{ℕ, ℤ, List, [], map, slice_index_or}
use Rattle.step_problem.specs.{declared.entry.Link.Link, declared.entry.Fixed.Fixed, declared.entry.River.River, declared.entry.Drain.Drain}
use Rattle.step_problem.specs.{declared.entry.Evap.Evap, declared.entry.Flow.Flow}

-- a variable cell: its cell number, and its entries by kind
pub record Entries : Type 0 where
  pub id : ℕ
  pub flows : List Flow
  pub links : List Link
  pub fixed : List Fixed
  pub rivers : List River
  pub drains : List Drain
  pub evaps : List Evap

abbrev pub no_entries : Entries
no_entries = record { id = 0; flows = []; links = []; fixed = []; rivers = []; drains = []; evaps = [] }

-- the cell of index c in a problem
abbrev pub entries_at : List Entries → ℕ → Entries
entries_at p c = slice_index_or p c no_entries

abbrev pub no_link : Link
no_link = record { cell = 0; lo = 0; hi = 0 }

abbrev pub link_at : List Link → ℕ → Link
link_at links i = slice_index_or links i no_link

-- the heads at the other ends of a cell's links, in their order, where cell k has the head h k
abbrev pub ends_in : (ℕ → ℤ) → List Link → List ℤ
ends_in h links = map (λ x. h x.cell) links
