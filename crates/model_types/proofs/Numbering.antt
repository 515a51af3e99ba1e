-- A cell's number and its place: each gives the other.
use Rattle.model_types.proofs.Common.{◌≡◌, ℕ, ◌+◌, ◌*◌, ◌-◌, ◌/◌, ◌%◌, ◌<◌, [], ◌∷◌, sym, ap, ◌∙◌, arith, div-add-mod', div-mul-add, mod-mul-add, mod_below, div_below, mul-add-lt, Grid, layer_size}
use Rattle.model_types.proofs.Common.{cell_count, cell_number, layer_of, row_of, column_of, place, HasSize, IsPlace}

module _ (g : Grid) (h : HasSize g) where
  rows_some : 0 < g.rows
  rows_some = omega (arith, h.rows.0)

  cols_some : 0 < g.cols
  cols_some = omega (arith, h.cols.0)

  pub size_some : 0 < layer_size g
  size_some = let a = rows_some in let b = cols_some in grind arith

  -- a cell of a layer: its number, by the layer and the place in it
  pub in_layer : (k i j : ℕ) → cell_number g k i j ≡ k * layer_size g + (i * g.cols + j)
  in_layer k i j = grind arith

  pub place_below : (i j : ℕ) → i < g.rows → j < g.cols → i * g.cols + j < layer_size g
  place_below i j p q = let r = mul-add-lt i g.cols j g.rows p q in omega (arith, r)

  pub layer_is : (k i j : ℕ) → i < g.rows → j < g.cols → layer_of g (cell_number g k i j) ≡ k
  layer_is k i j p q = ap (λ c. c / layer_size g) (in_layer k i j) ∙ div-mul-add k (layer_size g) (i * g.cols + j) (place_below i j p q)

  pub row_is : (k i j : ℕ) → i < g.rows → j < g.cols → row_of g (cell_number g k i j) ≡ i
  row_is k i j p q = ap (λ c. c % g.rows) (div-mul-add (k * g.rows + i) g.cols j q) ∙ mod-mul-add k g.rows i p

  pub column_is : (k i j : ℕ) → j < g.cols → column_of g (cell_number g k i j) ≡ j
  column_is k i j q = mod-mul-add (k * g.rows + i) g.cols j q

  pub cell_within : (k i j : ℕ) → k < g.layers → i < g.rows → j < g.cols → cell_number g k i j < cell_count g
  cell_within k i j o p q = let r = mul-add-lt k (layer_size g) (i * g.cols + j) g.layers o (place_below i j p q) in omega (arith, in_layer k i j, r)

  module _ (c : ℕ) (within : c < cell_count g) where
    pub row_below : row_of g c < g.rows
    row_below = mod_below (c / g.cols) g.rows rows_some

    pub column_below : column_of g c < g.cols
    column_below = mod_below c g.cols cols_some

    -- the cell is its own place's
    in_rows : (c / g.cols / g.rows * g.rows + row_of g c) * g.cols + column_of g c ≡ c
    in_rows = ap (λ q. q * g.cols + column_of g c) (div-add-mod' (c / g.cols) g.rows) ∙ div-add-mod' c g.cols

    layer_twice : layer_of g c ≡ c / g.cols / g.rows
    layer_twice = ap (λ n. n / layer_size g) (sym in_rows) ∙ layer_is (c / g.cols / g.rows) (row_of g c) (column_of g c) row_below column_below

    pub place_gives : cell_number g (layer_of g c) (row_of g c) (column_of g c) ≡ c
    place_gives = ap (λ k. cell_number g k (row_of g c) (column_of g c)) layer_twice ∙ in_rows

    pub layer_below : layer_of g c < g.layers
    layer_below = div_below c (layer_size g) g.layers size_some (omega (arith, within))

  -- and a place its own cell's, counted from 1
  pub cell_leads_back : (k i j : ℕ) → IsPlace g k i j → place g (cell_number g (k - 1) (i - 1) (j - 1)) ≡ k ∷ i ∷ j ∷ []
  cell_leads_back k i j f =
      let i_below : i - 1 < g.rows = omega (arith, f.row.0, f.row.1) in
      let j_below : j - 1 < g.cols = omega (arith, f.col.0, f.col.1) in
      let a : layer_of g (cell_number g (k - 1) (i - 1) (j - 1)) + 1 ≡ k = omega (arith, layer_is (k - 1) (i - 1) (j - 1) i_below j_below, f.layer.0) in
      let b : row_of g (cell_number g (k - 1) (i - 1) (j - 1)) + 1 ≡ i = omega (arith, row_is (k - 1) (i - 1) (j - 1) i_below j_below, f.row.0) in
      let d : column_of g (cell_number g (k - 1) (i - 1) (j - 1)) + 1 ≡ j = omega (arith, column_is (k - 1) (i - 1) (j - 1) j_below, f.col.0) in
      λ t. a t ∷ b t ∷ d t ∷ []
