-- Branches between cells that needn't be full (TM 6-A16, chapter 5, LPF, harmonic means): those of a confined model, with a thickness of its own
-- for each cell in the place of THICK. Model and settings aren't touched.
use Rattle.std.specs.Prelude.{ℕ, ◌+◌, Bool, cond}
use Rattle.decimal_input.specs.{number, size, Ratio, Fraction, over, Ratios.times, Ratios.plus}
use Rattle.cell_balance.specs.{lesser}
use Rattle.model_types.specs.{declared.model.FlowModel.FlowModel, declared.face.Axis.Axis, declared.face.Axis.TheVariants.Row}
use Rattle.model_types.specs.{declared.face.Axis.TheVariants.Column, declared.face.Axis.TheVariants.Vertical, delr_at, delc_at, hk_at, hani_at, vkcb_at, top_at}
use Rattle.model_types.specs.{bottom_at, bed_thickness, thickness, vertical_conductivity, layer_of, int_at, is_nonzero, gap, half, in_a_row, stride, two}
use Rattle.water_table.specs.declared.convertible_layers.ConvertibleLayers.{ConvertibleLayers}

-- The thickness of cell c is `thick c`.
module _ (m : FlowModel) (thick : ℕ → Ratio) where
  -- between a cell and the next one of its row: two halves in series, of lengths DELR, width DELC and conductivity HK
  unfoldable pub row_branch : ℕ → ℕ → Ratio
  row_branch a b = in_a_row
      (half (size (delr_at m a)) (size (delc_at m a)) (size (hk_at m a)) (thick a))
      (half (size (delr_at m b)) (size (delc_at m a)) (size (hk_at m b)) (thick b))

  -- between a cell and the next one of its column: lengths DELC, width DELR, conductivity HK * HANI
  unfoldable pub column_branch : ℕ → ℕ → Ratio
  column_branch a b = in_a_row
      (half (size (delc_at m a)) (size (delr_at m a)) (times (size (hk_at m a)) (size (hani_at m a))) (thick a))
      (half (size (delc_at m b)) (size (delr_at m a)) (times (size (hk_at m b)) (size (hani_at m b))) (thick b))

  -- half of a cell's vertical resistance, times its area: (thickness / 2) / VK
  unfoldable pub vertical_part : ℕ → Ratio
  vertical_part c = over (over (thick c) two) (vertical_conductivity m c)

  -- between a cell and the one below it, with the confining bed between them
  unfoldable pub vertical_branch : ℕ → ℕ → Ratio
  vertical_branch a b = over (times (size (delr_at m a)) (size (delc_at m a)))
      (plus (plus (vertical_part a) (over (bed_thickness m a) (size (vkcb_at m a)))) (vertical_part b))

  -- of a face: between its first cell and the next one along the axis
  abbrev pub branch : Axis → ℕ → Ratio
  branch Row a = row_branch a (a + stride m.grid Row)
  branch Column a = column_branch a (a + stride m.grid Column)
  branch Vertical a = vertical_branch a (a + stride m.grid Vertical)

module _ (m : FlowModel) (w : ConvertibleLayers) where
  -- A cell of a convertible layer: LAYTYP isn't 0 (TM 6-A16, chapter 5, LPF). That a LAYTYP below 0 counts as convertible where the
  -- option THICKSTRT isn't set rests on knowledge of LPF's code.
  abbrev pub is_convertible : ℕ → Bool
  is_convertible c = is_nonzero (int_at w.laytyp (layer_of m.grid c))

-- The heads are h, by cell number.
module _ (m : FlowModel) (w : ConvertibleLayers) (h : ℕ → Fraction) where
  -- The saturated thickness of a cell of a convertible layer: the lesser of head and top, less the bottom, for a head above the
  -- bottom. Elsewhere it is THICK (TM 6-A16, chapter 5, LPF).
  unfoldable pub saturated_thickness : ℕ → Ratio
  saturated_thickness c = cond (is_convertible m w c) (gap (lesser (h c) (number (top_at m c))) (number (bottom_at m c))) (thickness m c)

  -- The conductance of a face at these heads. That a vertical branch takes the saturated thickness too is LPF's rule where the
  -- option CONSTANTCV isn't set: it rests on knowledge of LPF's code. Its correction of the flow to a lower cell that isn't full (the option NOVFC
  -- turns it off) doesn't act at gentle heads.
  abbrev pub conductance_at : Axis → ℕ → Ratio
  conductance_at = branch m saturated_thickness
