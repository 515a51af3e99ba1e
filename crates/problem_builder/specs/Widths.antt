-- Pairs of the branches between cells, and the contents of tables by cell.
use Rattle.std.specs.Prelude.{◌≡◌, ℕ, ◌+◌, ◌<◌, ◌⊎◌, true, List, Option, None, Some, length, slice_index_or}
use Rattle.model_types.specs.{declared.model.FlowModel.FlowModel, declared.face.Axis.Axis, stride, has_after, cell_count, layer_size, is_active, bed_thickness}
use Rattle.model_types.specs.{delr_at, delc_at, hk_at, hani_at, vka_at, vkcb_at, is_ratio, IsPositive}
use Rattle.conductance_bounds.specs.{declared.pair.Pair.Pair, declared.horizontal.Half.Half, declared.horizontal.ColHalf.ColHalf}
use Rattle.conductance_bounds.specs.{declared.vertical.VertHalf.VertHalf, face_term, bed_span, capped_pair, IsZero, AreThick, thick_span}
use Rattle.conductance_bounds.specs.{declared.span.Span.Span}

-- the whole bounds of the conductance from a cell to the next one along an axis
abbrev pub face_pair : FlowModel → ℕ → Axis → ℕ → Pair
face_pair m s axis a = capped_pair (face_term m axis a) s

-- the decimals of an active cell's thickness
pub record IsThicknessOf (m : FlowModel) (c : ℕ) (t : Span) : Type 0 where
  pub span : t ≡ thick_span m c
  pub thick : AreThick t.lo t.hi

abbrev pub IsThickness : FlowModel → ℕ → Span → Type 0
IsThickness m c t = is_active m c ≡ true → IsThicknessOf m c t

-- the decimals of the bed below a cell
pub record IsBedOf (m : FlowModel) (c : ℕ) (t : Span) : Type 0 where
  pub some : 0 < (bed_thickness m c).num
  pub span : t ≡ bed_span m c
  pub thick : AreThick t.lo t.hi
  pub vkcb : IsPositive (vkcb_at m c)

-- zeros where there is no bed
pub record IsNoBed (m : FlowModel) (c : ℕ) (t : Span) : Type 0 where
  pub none : (bed_thickness m c).num ≡ 0
  pub low : IsZero t.lo
  pub high : IsZero t.hi

-- between two active cells
abbrev pub IsBedBelow : FlowModel → ℕ → Span → Type 0
IsBedBelow m c t = c + layer_size m.grid < cell_count m.grid → is_active m c ≡ true → is_active m (c + layer_size m.grid) ≡ true → IsBedOf m c t ⊎ IsNoBed m c t

-- the two cells of a face, by its first cell: both in the grid, and active
pub record IsBranch (m : FlowModel) (axis : Axis) (a : ℕ) : Type 0 where
  pub within : a + stride m.grid axis < cell_count m.grid
  pub first : is_active m a ≡ true
  pub second : is_active m (a + stride m.grid axis) ≡ true

-- the bounds of the conductance to the next cell along an axis
abbrev pub HasConductance : FlowModel → ℕ → Axis → ℕ → Pair → Type 0
HasConductance m s axis a x =
    has_after m.grid axis a ≡ true → is_active m a ≡ true → is_active m (a + stride m.grid axis) ≡ true → x ≡ face_pair m s axis a

-- a cell's half of a branch along each axis
abbrev pub row_half : FlowModel → ℕ → Half
row_half m c = record { along = delr_at m c; hk = hk_at m c; thick_lo = (thick_span m c).lo; thick_hi = (thick_span m c).hi }

abbrev pub column_half : FlowModel → ℕ → ColHalf
column_half m c = record { along = delc_at m c; hk = hk_at m c; hani = hani_at m c; thick_lo = (thick_span m c).lo; thick_hi = (thick_span m c).hi }

abbrev pub layer_half : FlowModel → ℕ → VertHalf
layer_half m c = record { hk = hk_at m c; vka = vka_at m c; ratio = is_ratio m c; thick_lo = (thick_span m c).lo; thick_hi = (thick_span m c).hi }

-- Tables that are filled cell by cell, and optional items.
-- an item for each cell below n, for which P holds
pub record Filled {X : Type 0} (P : ℕ → X → Type 0) (none : X) (n : ℕ) (xs : List X) : Type 0 where
  pub count : length xs ≡ n
  pub each : (c : ℕ) → c < n → P c (slice_index_or xs c none)

-- two optional items are related, or both are None
abbrev pub BothOrNone : {X Y : Type 0} → (X → Y → Type 0) → Option X → Option Y → Type 0
BothOrNone R None None = Unit {0}
BothOrNone R None (Some y) = ⊥
BothOrNone R (Some x) None = ⊥
BothOrNone R (Some x) (Some y) = R x y
