-- Water in storage, and what a cell gives from it in a time step (TM 6-A16, chapter 5, LPF: SS, SY and the storage of a cell whose head crosses its top).
use Rattle.std.specs.Prelude.{ℕ, cond, pos, true}
use Rattle.decimal_input.specs.{number, size, Fraction, over, whole, as_fraction, Fractions.plus, Fractions.times, Ratios.times as product}
use Rattle.cell_balance.specs.{minus, lesser, greater}
use Rattle.model_types.specs.{declared.model.FlowModel.FlowModel, dec_at, area, top_at, storage_capacity, one, period_at, step_length}
use Rattle.water_table.specs.{declared.convertible_layers.ConvertibleLayers.ConvertibleLayers, Branches.is_convertible}

-- the model with SY for a storage coefficient (TM 6-A16, LPF, options and item 13)
abbrev pub with_yield : FlowModel → ConvertibleLayers → FlowModel
with_yield m w = record m { ss = w.sy; coefficient = true }

module _ (m : FlowModel) (w : ConvertibleLayers) where
  -- below the top of a convertible cell: SY * DELR * DELC * min(head, top), counted from an elevation of 0
  abbrev pub drainable_water : ℕ → Fraction → Fraction
  drainable_water c v = times (as_fraction (product (size (dec_at w.sy c)) (area m c))) (lesser v (number (top_at m c)))

  -- above it: SS * THICK * DELR * DELC * max(head - top, 0), without THICK under STORAGECOEFFICIENT
  abbrev pub compressed_water : ℕ → Fraction → Fraction
  compressed_water c v = times (as_fraction (storage_capacity m c)) (greater (minus v (number (top_at m c))) (whole (pos 0)))

  -- The stored water of cell c at the head v, but for a constant. Where LAYTYP is 0 it is SS * THICK * DELR * DELC * head.
  unfoldable pub stored_water : ℕ → Fraction → Fraction
  stored_water c v = cond (is_convertible m w c) (plus (drainable_water c v) (compressed_water c v)) (times (as_fraction (storage_capacity m c)) v)

  -- What cell c gives from storage in step n of period p, from the head `old` to the head v: the water that it loses, over the
  -- step's length. In a steady period it is nothing.
  unfoldable pub storage_flow : ℕ → ℕ → ℕ → Fraction → Fraction → Fraction
  storage_flow p n c old v =
      cond (period_at m p).steady (whole (pos 0))
      (times (as_fraction (over one (step_length (period_at m p) n))) (minus (stored_water c old) (stored_water c v)))
