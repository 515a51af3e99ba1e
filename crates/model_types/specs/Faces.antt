-- The faces of a cell. Along each axis neighbours are the same distance apart in cell number, so the faces of all
-- three axes have one definition: along a row 1, along a column NCOL, from layer to layer NROW * NCOL (TM 6-A16,
-- chapter 2).
use Rattle.std.specs.Prelude.{ℕ, ◌+◌, ◌-◌, ◌%◌, Bool, nat_le, nat_lt, cond, List, [], ◌∷◌, Option, Some, None, ◌*◌, ◌/◌}
use Rattle.model_types.specs.{declared.grid.Grid.Grid, declared.face.Axis.Axis, declared.face.Face.Face, declared.face.Axis.TheVariants.Row}
use Rattle.model_types.specs.{declared.face.Axis.TheVariants.Column, declared.face.Axis.TheVariants.Vertical}

-- The cells of a grid and their places. Cells are numbered layer by layer, row by row, column by column, from 0 (TM
-- 6-A16, chapter 2). Layers, rows and columns count from 0 here; the listing and the input count them from 1.
module _ (g : Grid) where
  -- how many cells a layer has, and the grid
  abbrev pub layer_size : ℕ
  layer_size = g.rows * g.cols

  abbrev pub cell_count : ℕ
  cell_count = g.layers * layer_size

  -- the number of the cell in layer k, row i and column j
  abbrev pub cell_number : ℕ → ℕ → ℕ → ℕ
  cell_number k i j = (k * g.rows + i) * g.cols + j

  -- the layer, the row and the column of a cell
  abbrev pub layer_of : ℕ → ℕ
  layer_of c = c / layer_size

  abbrev pub row_of : ℕ → ℕ
  row_of c = c / g.cols % g.rows

  abbrev pub column_of : ℕ → ℕ
  column_of c = c % g.cols

  -- its layer, row and column as the input and the listing print them, from 1
  abbrev pub place : ℕ → List ℕ
  place c = (layer_of c + 1) ∷ (row_of c + 1) ∷ (column_of c + 1) ∷ []

  -- the cell's place in an array of one layer, by row and then by column
  abbrev pub place_in_layer : ℕ → ℕ
  place_in_layer c = c % layer_size

-- The neighbours of a cell: the cells of the grid that lie one column, one row or one layer away (TM 6-A16, chapter 2).
module _ (g : Grid) where
  abbrev pub left : ℕ → Option ℕ
  left c = cond (nat_lt 0 (column_of g c)) (Some (cell_number g (layer_of g c) (row_of g c) (column_of g c - 1))) None

  abbrev pub right : ℕ → Option ℕ
  right c = cond (nat_lt (column_of g c + 1) g.cols) (Some (cell_number g (layer_of g c) (row_of g c) (column_of g c + 1))) None

  abbrev pub back : ℕ → Option ℕ
  back c = cond (nat_lt 0 (row_of g c)) (Some (cell_number g (layer_of g c) (row_of g c - 1) (column_of g c))) None

  abbrev pub front : ℕ → Option ℕ
  front c = cond (nat_lt (row_of g c + 1) g.rows) (Some (cell_number g (layer_of g c) (row_of g c + 1) (column_of g c))) None

  abbrev pub up : ℕ → Option ℕ
  up c = cond (nat_lt 0 (layer_of g c)) (Some (cell_number g (layer_of g c - 1) (row_of g c) (column_of g c))) None

  abbrev pub down : ℕ → Option ℕ
  down c = cond (nat_lt (layer_of g c + 1) g.layers) (Some (cell_number g (layer_of g c + 1) (row_of g c) (column_of g c))) None

module _ (g : Grid) where
  -- by how much the numbers of neighbours along an axis differ, and after how many numbers the axis begins anew
  abbrev pub stride : Axis → ℕ
  stride Row = 1
  stride Column = g.cols
  stride Vertical = layer_size g

  abbrev pub span : Axis → ℕ
  span Row = g.cols
  span Column = layer_size g
  span Vertical = cell_count g

module _ (g : Grid) where
  -- whether there is a cell before this one, and one after it, along the axis: it isn't the first, or the last, of its row, column or column of layers
  abbrev pub has_before : Axis → ℕ → Bool
  has_before axis c = nat_le (stride g axis) (c % span g axis)

  abbrev pub has_after : Axis → ℕ → Bool
  has_after axis c = nat_lt (c % span g axis + stride g axis) (span g axis)

module _ (g : Grid) where
  -- the face to the cell before this one along an axis, and to the one after it
  abbrev pub face_before : Axis → ℕ → Option Face
  face_before axis c = cond (has_before g axis c) (Some (record { axis = axis; first = c - stride g axis; end = c - stride g axis })) None

  abbrev pub face_after : Axis → ℕ → Option Face
  face_after axis c = cond (has_after g axis c) (Some (record { axis = axis; first = c; end = c + stride g axis })) None

-- the faces of a cell to its up to six neighbours, by ascending number of the neighbour: up, back, left, right, front, down
abbrev pub faces : Grid → ℕ → List (Option Face)
faces g c = face_before g Vertical c ∷ face_before g Column c ∷ face_before g Row c ∷ face_after g Row c ∷ face_after g Column c ∷ face_after g Vertical c ∷ []

-- a face whose neighbour passes a test
abbrev pub through : (ℕ → Bool) → Option Face → Option Face
through test None = None
through test (Some x) = cond (test x.end) (Some x) None
