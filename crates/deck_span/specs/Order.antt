-- The order in which a deck is read, and the cell of what differs first.
use Rattle.std.specs.Prelude.{◌≡◌, ℕ, ◌≤◌, ◌<◌, ◌/◌, ◌⊎◌, List, [], Option, Some, None, Result, Ok, Err, length, nat_lt, cond, slice_index_or, take, slice_get}
use Rattle.decimal_input.specs.declared.dec.Dec.{Dec}
use Rattle.model_types.specs.declared.grid.CellId.{CellId}
use Rattle.std.specs.List.{AllZip}

-- The items of two lists that stand at one place: whether they are alike, and the first place at which they aren't.
-- numbers
abbrev pub AreSame : {X : Type 0} → X → X → Type 0
AreSame x y = y ≡ x

-- k is the first place at which the items of two lists aren't alike
pub record IsFirst {X : Type 0} (Alike : X → X → Type 0) (xs ys : List X) (k : ℕ) : Type 0 where
  pub before : AllZip Alike (take k xs) (take k ys)
  pub first : X
  pub second : X
  pub of_first : slice_get xs k ≡ Some first
  pub of_second : slice_get ys k ≡ Some second
  pub unlike : Alike first second → ⊥

-- of two parts, read one after the other, the first one that isn't shared names the cell
abbrev pub InOrder : Type 0 → Type 0 → Type 0 → Type 0
InOrder Shared Cell Later = ((Shared → ⊥) × Cell) ⊎ (Shared × Later)

-- what a walk over a part gives: Ok where it is shared, else the cell
abbrev pub Finds : Type 0 → (Option CellId → Type 0) → Result (Unit {0}) (Option CellId) → Type 0
Finds Shared Cell (Ok shared) = Shared
Finds Shared Cell (Err cell) = (Shared → ⊥) × Cell cell

-- the cell of this number in a grid of this many cells
abbrev pub cell_in_grid : ℕ → ℕ → Option CellId
cell_in_grid cells c = cond (nat_lt c cells) (Some (record { 0 = c })) None

-- what a walk gives that has found this place, or none
abbrev pub apart : ℕ → Option ℕ → Result (Unit {0}) (Option CellId)
apart cells None = Ok tt
apart cells (Some place) = Err (cell_in_grid cells place)

-- A list's cell: that of the second deck's item at the first place that isn't alike. Its length is read before its
-- items, so lists of other lengths name no cell.
pub record IsItemNamed {X : Type 0} (Alike : X → X → Type 0) (number : ℕ → X → ℕ) (cells : ℕ) (xs ys : List X) (cell : Option CellId) : Type 0 where
  pub place : ℕ
  pub first : IsFirst Alike xs ys place
  pub names : cell ≡ cell_in_grid cells (number place first.second)

abbrev pub IsListCell : {X : Type 0} → (X → X → Type 0) → (ℕ → X → ℕ) → ℕ → List X → List X → Option CellId → Type 0
IsListCell Alike number cells xs ys cell = InOrder (length ys ≡ length xs) (cell ≡ None) (IsItemNamed Alike number cells xs ys cell)

-- an array's cell, by the place; an array of one layer names the cells of layer 1
abbrev pub IsArrayCell : {X : Type 0} → (X → X → Type 0) → ℕ → List X → List X → Option CellId → Type 0
IsArrayCell Alike cells xs ys cell = IsListCell Alike (λ place y. place) cells xs ys cell

-- the array at a place of a list of arrays
abbrev pub array_at : List (List Dec) → ℕ → List Dec
array_at arrays i = slice_index_or arrays i []

-- Arrays that are read layer by layer, and in a layer one after another: place k of some array is the first difference
-- of them all. The first difference of each other array lies in a lower layer, or in the same one in a later array.
pub record IsFirstOfLayers (layer_size : ℕ) (xss yss : List (List Dec)) (k : ℕ) : Type 0 where
  pub array : ℕ
  pub first : IsFirst AreSame (array_at xss array) (array_at yss array) k
  pub others : (i n : ℕ) → IsFirst AreSame (array_at xss i) (array_at yss i) n →
      (k / layer_size < n / layer_size) ⊎ ((k / layer_size ≡ n / layer_size) × (array ≤ i))

-- their cell
pub record IsLayerCell (layer_size cells : ℕ) (xss yss : List (List Dec)) (cell : Option CellId) : Type 0 where
  pub place : ℕ
  pub first : IsFirstOfLayers layer_size xss yss place
  pub names : cell ≡ cell_in_grid cells place

-- Which of two places is read first, and what a walk over arrays finds.
-- of the first differences of two arrays, the first array's unless the other's lies in a layer above
abbrev pub earlier : ℕ → Option ℕ → Option ℕ → Option ℕ
earlier layer_size None q = q
earlier layer_size (Some p) None = Some p
earlier layer_size (Some p) (Some q) = cond (nat_lt (q / layer_size) (p / layer_size)) (Some q) (Some p)

-- each of these arrays is the same
abbrev pub AreArraysSame : List (List Dec) → List (List Dec) → Type 0
AreArraysSame xss yss = (i : ℕ) → AllZip AreSame (array_at xss i) (array_at yss i)

-- what a walk over arrays finds that are read layer by layer: the first difference, or that all are the same
abbrev pub IsFound : ℕ → List (List Dec) → List (List Dec) → Option ℕ → Type 0
IsFound layer_size xss yss None = AreArraysSame xss yss
IsFound layer_size xss yss (Some k) = IsFirstOfLayers layer_size xss yss k
