-- The bounds of the conductance of a face at heads that are known by bounds: the formulas of a confined model's faces over the bounds of the saturated
-- thickness.
use Rattle.std.specs.Prelude.{ℕ, ◌+◌, ◌<◌, ◌^◌, ◌&&◌, ◌==◌, cond, List, ◌≤ℤ◌}
use Rattle.decimal_input.specs.{Encloses, Fraction}
use Rattle.step_problem.specs.{declared.heads.Bound.Bound, lower_at, upper_at}
use Rattle.model_types.specs.{declared.model.FlowModel.FlowModel, declared.face.Axis.Axis, declared.face.Axis.TheVariants.Row}
use Rattle.model_types.specs.{declared.face.Axis.TheVariants.Column, declared.face.Axis.TheVariants.Vertical, IsModel, bed_thickness, cell_count, delc_at}
use Rattle.model_types.specs.{delr_at, hani_at, hk_at, is_ratio, one, stride, vka_at, vkcb_at}
use Rattle.conductance_bounds.specs.{declared.pair.Pair.Pair, declared.span.Span.Span, declared.horizontal.Half.Half, declared.horizontal.ColHalf.ColHalf}
use Rattle.conductance_bounds.specs.{declared.vertical.VertHalf.VertHalf, declared.vertical.Bed.Bed, Term, bed_span, column_of, row_of, vertical_of}
unfoldable use Rattle.conductance_bounds.specs.{capped_pair}
use Rattle.problem_builder.specs.{HeadsEnclose, IsBranch, no_pair, no_span}
use Rattle.water_table.specs.{declared.convertible_layers.ConvertibleLayers.ConvertibleLayers, conductance_at}
use Rattle.water_conductances.specs.Spans.{has_depth, saturated_span}

-- a cell's half of a branch along each axis, with a thickness of its own
abbrev pub row_half : FlowModel → Span → ℕ → Half
row_half m t c = record { along = delr_at m c; hk = hk_at m c; thick_lo = t.lo; thick_hi = t.hi }

abbrev pub column_half : FlowModel → Span → ℕ → ColHalf
column_half m t c = record { along = delc_at m c; hk = hk_at m c; hani = hani_at m c; thick_lo = t.lo; thick_hi = t.hi }

abbrev pub layer_half : FlowModel → Span → ℕ → VertHalf
layer_half m t c = record { hk = hk_at m c; vka = vka_at m c; ratio = is_ratio m c; thick_lo = t.lo; thick_hi = t.hi }

-- the bed below a cell, zeros where it has no thickness
abbrev pub bed_below : FlowModel → ℕ → Bed
bed_below m a =
    let t = cond ((bed_thickness m a).num == 0) no_span (bed_span m a) in
    record { thick_lo = t.lo; thick_hi = t.hi; vkcb = vkcb_at m a }

-- The formula of a face, between its first cell a, whose thickness has the decimals x, and the next one along the axis, whose thickness has the decimals y.
-- Its bounds don't depend on the exact thicknesses, for which 1 stands.
abbrev pub formula_of : FlowModel → Axis → Span → Span → ℕ → Term
formula_of m Row x y a = row_of (row_half m x a) (row_half m y (a + stride m.grid Row)) (delc_at m a) one one
formula_of m Column x y a = column_of (column_half m x a) (column_half m y (a + stride m.grid Column)) (delr_at m a) one one
formula_of m Vertical x y a =
    vertical_of (layer_half m x a) (layer_half m y (a + stride m.grid Vertical)) (bed_below m a) (delr_at m a) (delc_at m a) one one one

module _ (m : FlowModel) (w : ConvertibleLayers) (heads : List Bound) where
  abbrev pub face_formula : Axis → ℕ → Term
  face_formula axis a = formula_of m axis (saturated_span m w heads a) (saturated_span m w heads (a + stride m.grid axis)) a

  -- the pair of a face with s digits; zeros where the lower bound of a saturated thickness is 0
  abbrev pub pair_at_heads : ℕ → Axis → ℕ → Pair
  pair_at_heads s axis a = cond (has_depth m w heads a && has_depth m w heads (a + stride m.grid axis)) (capped_pair (face_formula axis a) s) no_pair

-- each lower bound of a head is at most the upper one
abbrev pub AreOrdered : FlowModel → List Bound → Type 0
AreOrdered m heads = (c : ℕ) → c < cell_count m.grid → lower_at heads c ≤ℤ upper_at heads c

-- Where the pair of a face is below 2^60 units and above 0, it encloses the conductance at all heads within the bounds.
abbrev pub PairsEnclose : Type 0
PairsEnclose = (m : FlowModel) (w : ConvertibleLayers) (heads : List Bound) (h : ℕ → Fraction) (s : ℕ) (axis : Axis) (a : ℕ) → IsModel m →
    HeadsEnclose m heads h → IsBranch m axis a → 0 < (pair_at_heads m w heads s axis a).lo → (pair_at_heads m w heads s axis a).hi < 2 ^ 60 →
    Encloses (pair_at_heads m w heads s axis a).lo (pair_at_heads m w heads s axis a).hi s (conductance_at m w h axis a)
