-- The bounds of the saturated thickness of a cell whose head is known by bounds, in units of 10^-9 length units. At one whole head both bounds are that head.
use Rattle.std.specs.Prelude.{ℕ, ℤ, pos, neg_ℤ, ◌-ℤ◌, ◌*ℤ◌, ◌^◌, Bool, cond, not, ◌||◌, int_lt, List, unsigned_abs}
use Rattle.std.specs.Int.{int_min}
unfoldable use Rattle.decimal_input.specs.{scaled_ratio}
use Rattle.scaled_decimal.specs.{Lower, Upper, rounded_decimal}
use Rattle.step_problem.specs.{declared.heads.Bound.Bound, lower_at, upper_at}
use Rattle.model_types.specs.{declared.model.FlowModel.FlowModel, top_at, bottom_at}
use Rattle.conductance_bounds.specs.{declared.span.Span.Span, thick_span}
unfoldable use Rattle.conductance_bounds.specs.{units_at}
use Rattle.water_table.specs.{declared.convertible_layers.ConvertibleLayers.ConvertibleLayers, is_convertible}

-- the decimals of two numbers of units of 10^-18 that aren't negative, rounded to 18 digits down and up
unfoldable pub span_of_units : ℤ → ℤ → Span
span_of_units least most = record {
  lo = rounded_decimal Lower (scaled_ratio (unsigned_abs least) (neg_ℤ (pos 18)));
  hi = rounded_decimal Upper (scaled_ratio (unsigned_abs most) (neg_ℤ (pos 18)));
}

module _ (m : FlowModel) (heads : List Bound) where
  -- the lesser of head and top, less the bottom, in units of 10^-18: each elevation and head on the side that makes it least, and greatest
  abbrev pub least_units : ℕ → ℤ
  least_units c = int_min (lower_at heads c *ℤ pos (10 ^ 9)) (units_at Lower (top_at m c) 18) -ℤ units_at Upper (bottom_at m c) 18

  abbrev pub most_units : ℕ → ℤ
  most_units c = int_min (upper_at heads c *ℤ pos (10 ^ 9)) (units_at Upper (top_at m c) 18) -ℤ units_at Lower (bottom_at m c) 18

  -- and its decimals
  abbrev pub wet_span : ℕ → Span
  wet_span c = span_of_units (least_units c) (most_units c)

module _ (m : FlowModel) (w : ConvertibleLayers) (heads : List Bound) where
  -- the decimals of the saturated thickness of an active cell: those of THICK where LAYTYP is 0
  abbrev pub saturated_span : ℕ → Span
  saturated_span c = cond (is_convertible m w c) (wet_span m heads c) (thick_span m c)

  -- whether the lower bound is above 0, in units of 10^-18
  abbrev pub has_depth : ℕ → Bool
  has_depth c = not (is_convertible m w c) || int_lt (pos 0) (least_units m heads c)
