-- The properties of a cell: its widths, its elevations and thickness, and its conductivities, with the exact numbers of the input (TM 6-A16, chapters 2 and 5).
use Rattle.std.specs.Prelude.{ℕ, ◌+◌, ◌-◌, ◌*◌, ℤ, pos, ◌*ℤ◌, ◌-ℤ◌, Bool, cond, not, nat_lt, ◌==◌, List, slice_index_or, unsigned_abs, false}
use Rattle.decimal_input.specs.{declared.dec.Dec.Dec, number, size, Ratio, over, Fraction, ratio, Ratios.times, Ratios.plus, Fractions.den}
use Rattle.model_types.specs.{declared.model.FlowModel.FlowModel, Faces.layer_size, Faces.layer_of, Faces.row_of, Faces.column_of, Faces.stride}
use Rattle.model_types.specs.{declared.face.Axis.Axis, declared.face.Axis.TheVariants.Row, declared.face.Axis.TheVariants.Column}
use Rattle.model_types.specs.{declared.face.Axis.TheVariants.Vertical}

abbrev pub no_number : Dec
no_number = record { neg = false; digits = 0; exp = pos 0 }

-- the number at a place of an array, 0 past its end
abbrev pub dec_at : List Dec → ℕ → Dec
dec_at xs i = slice_index_or xs i no_number

abbrev pub int_at : List ℤ → ℕ → ℤ
int_at xs i = slice_index_or xs i (pos 0)

abbrev pub is_nonzero : ℤ → Bool
is_nonzero z = not (unsigned_abs z == 0)

-- f - g, for f at least g
abbrev pub gap : Fraction → Fraction → Ratio
gap f g = record { num = unsigned_abs (f.num *ℤ pos (den g) -ℤ g.num *ℤ pos (den f)); less = f.less * g.less + f.less + g.less }

module _ (m : FlowModel) where
  -- an active cell: IBOUND isn't 0 (TM 6-A16, chapter 4)
  abbrev pub is_active : ℕ → Bool
  is_active c = is_nonzero (int_at m.ibound c)

  -- DELR, the width of the cell's column, and DELC, that of its row
  abbrev pub delr_at : ℕ → Dec
  delr_at c = dec_at m.grid.delr (column_of m.grid c)

  abbrev pub delc_at : ℕ → Dec
  delc_at c = dec_at m.grid.delc (row_of m.grid c)

  -- the area of a cell, seen from above
  unfoldable pub area : ℕ → Ratio
  area c = times (size (delr_at c)) (size (delc_at c))

  -- whether a confining bed lies below the cell's layer: LAYCBD isn't 0
  abbrev pub has_bed : ℕ → Bool
  has_bed c = is_nonzero (int_at m.grid.laycbd (layer_of m.grid c))

  -- the bottom of the cell's layer, and the bottom of what lies between the layer and the next one: the bed's bottom, or the layer's own
  abbrev pub bottom_at : ℕ → Dec
  bottom_at c = dec_at m.grid.bottom c

  abbrev pub lowest : ℕ → Dec
  lowest c = cond (has_bed c) (dec_at m.grid.bed_bottom c) (bottom_at c)

  -- the elevation above the cell's layer: the top of layer 1, below that the lowest elevation of the layer above
  abbrev pub top_at : ℕ → Dec
  top_at c = cond (nat_lt c (layer_size m.grid)) (dec_at m.grid.top c) (lowest (c - layer_size m.grid))

  -- THICK, the thickness of the cell, and the thickness of the confining bed below it, which is 0 without a bed
  abbrev pub thickness : ℕ → Ratio
  thickness c = gap (number (top_at c)) (number (bottom_at c))

  abbrev pub bed_thickness : ℕ → Ratio
  bed_thickness c = gap (number (bottom_at c)) (number (lowest c))

  -- HK, HANI (the ratio of the conductivity along columns to that along rows), VKA, and the bed's VKCB
  abbrev pub hk_at : ℕ → Dec
  hk_at c = dec_at m.hk c

  abbrev pub hani_at : ℕ → Dec
  hani_at c = dec_at m.hani c

  abbrev pub vka_at : ℕ → Dec
  vka_at c = dec_at m.vka c

  abbrev pub vkcb_at : ℕ → Dec
  vkcb_at c = dec_at m.vkcb c

  -- whether VKA is the ratio of horizontal to vertical conductivity: LAYVKA isn't 0
  abbrev pub is_ratio : ℕ → Bool
  is_ratio c = is_nonzero (int_at m.layvka (layer_of m.grid c))

  -- VK, the vertical conductivity: VKA, or HK / VKA where VKA is a ratio
  abbrev pub vertical_conductivity : ℕ → Ratio
  vertical_conductivity c = cond (is_ratio c) (over (size (hk_at c)) (size (vka_at c))) (size (vka_at c))

-- The conductances between cells, exactly (TM 6-A16, chapter 5, LPF with harmonic means). Two half-cells lie in a
-- row: their resistances add up, and the conductance is one over the sum.
abbrev pub one : Ratio
one = ratio 1 1

abbrev pub two : Ratio
two = ratio 2 1

-- the resistance of half a cell of length d, across a width w, with conductivity k and thickness t: d / (2 * w * k * t)
unfoldable pub half : Ratio → Ratio → Ratio → Ratio → Ratio
half d w k t = over d (times (times (times two w) k) t)

-- the conductance of two resistances in series: 1 / (r₁ + r₂)
unfoldable pub in_a_row : Ratio → Ratio → Ratio
in_a_row r₁ r₂ = over one (plus r₁ r₂)

module _ (m : FlowModel) where
  -- CR, between a cell and the next one of its row: lengths DELR, width DELC, conductivity HK (TM 6-A16, chapter 5)
  unfoldable pub row_conductance : ℕ → ℕ → Ratio
  row_conductance a b = in_a_row
      (half (size (delr_at m a)) (size (delc_at m a)) (size (hk_at m a)) (thickness m a))
      (half (size (delr_at m b)) (size (delc_at m a)) (size (hk_at m b)) (thickness m b))

  -- CC, between a cell and the next one of its column: lengths DELC, width DELR, conductivity HK * HANI
  unfoldable pub column_conductance : ℕ → ℕ → Ratio
  column_conductance a b = in_a_row
      (half (size (delc_at m a)) (size (delr_at m a)) (times (size (hk_at m a)) (size (hani_at m a))) (thickness m a))
      (half (size (delc_at m b)) (size (delr_at m a)) (times (size (hk_at m b)) (size (hani_at m b))) (thickness m b))

  -- half of a cell's vertical resistance, times its area: (THICK / 2) / VK
  unfoldable pub vertical_half : ℕ → Ratio
  vertical_half c = over (over (thickness m c) two) (vertical_conductivity m c)

  -- CV, between a cell and the one below it, with the confining bed between them: DELR * DELC / ((THICK / 2) / VK + B / VKCB + (THICK / 2) / VK)
  unfoldable pub vertical_conductance : ℕ → ℕ → Ratio
  vertical_conductance a b = over (times (size (delr_at m a)) (size (delc_at m a)))
      (plus (plus (vertical_half a) (over (bed_thickness m a) (size (vkcb_at m a)))) (vertical_half b))

  -- of a face: between its first cell and the next one along the axis
  abbrev pub conductance : Axis → ℕ → Ratio
  conductance Row a = row_conductance a (a + stride m.grid Row)
  conductance Column a = column_conductance a (a + stride m.grid Column)
  conductance Vertical a = vertical_conductance a (a + stride m.grid Vertical)
