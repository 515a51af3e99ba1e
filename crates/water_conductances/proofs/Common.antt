-- Names that several proofs of this crate cite, of the crates below and of its own definitions, passed on from one place. Declares nothing.
pub use Rattle.std.proofs.Common.{Bool, FitsSigned, List, ap, arith, cond, false, inl, inr, mul-pos, neg_ℤ, negsuc, pos, refl, rules, subst, suc, sym, true, zero, ℕ, ℤ, ◌*ℤ◌, ◌*◌, ◌+◌, ◌-ℤ◌, ◌<ℤ◌}
pub use Rattle.std.proofs.Common.{◌<◌, ◌^◌, ◌∙◌, ◌≡◌, ◌≤ℤ◌, ◌≤◌, ◌⊎◌}
pub use Rattle.std.proofs.lemmas.Bool.{and_parts, cases_Bool, eq-eqb, false≢true, ne_eqb}
pub use Rattle.std.proofs.lemmas.Int.{by_lt_z, clamps, ints, to_z-of_z}
pub use Rattle.std.specs.Int.{int_min, w128, w64}
pub use Rattle.std.specs.Prelude.{int_lt, not, unsigned_abs, ◌&&◌, ◌==◌, ◌||◌}
pub use Rattle.conductance_bounds.proofs.{FaceBounds.cell_below_means_layers, FaceBounds.no_gap, Ready.IsReady, Ready.delc_positive, Ready.delr_positive, Ready.is_ready, ThickBounds.are_thick}
pub use Rattle.conductance_bounds.proofs.{ThickBounds.bottom_small, ThickBounds.ceiling_or_limit, ThickBounds.floor_or_limit, ThickBounds.lower_end, ThickBounds.span_positive}
pub use Rattle.conductance_bounds.proofs.{ThickBounds.thick_between, ThickBounds.top_small, ThickBounds.upper_end, Units.ceiling_units, Units.floor_units, Units.units_ceiling, Units.units_floor}
pub use Rattle.conductance_bounds.specs.{IsBed, IsBetween, IsColHalf, IsHalf, IsVertHalf, Number, PairEncloses, Quotient, Within, area_formula, bed_of, bed_span, column_k, column_of, resistance_sum}
pub use Rattle.conductance_bounds.specs.{row_of, small_pair, thick_span, vertical_half_of, vertical_of, declared.pair.Pair.Pair, declared.span.Span.Span, declared.vertical.Bed.Bed}
pub use Rattle.conductance_bounds.specs.{declared.vertical.VertHalf.VertHalf}
pub use Rattle.decimal_input.proofs.FloorLaws.{cancel_right, floor_ceiling_enclose, last_factors_swap, mul_mono_right}
pub use Rattle.decimal_input.specs.{Encloses, EnclosesSigned, Fraction, IsDec, IsOver, IsShare, IsSignedCeiling, IsSignedFloor, Ratio, number, size, Fractions.den, declared.dec.Dec.Dec}
pub use Rattle.model_types.specs.{IsModel, IsPositive, IsThick, bed_thickness, bottom_at, cell_count, dec_at, delc_at, delr_at, gap, has_bed, hk_at, is_active, is_ratio, layer_size, lowest, one}
pub use Rattle.model_types.specs.{stride, thickness, top_at, vka_at, vkcb_at, declared.face.Axis.Axis, declared.model.FlowModel.FlowModel}
pub use Rattle.problem_builder.proofs.{Elevations.bottom_valid, Elevations.top_valid, Fits.capped_encloses, Fits.kept_pair}
pub use Rattle.problem_builder.specs.{HeadsEnclose, IsBedOf, IsBranch, IsNoBed, no_pair, no_span, span_in}
pub use Rattle.scaled_decimal.proofs.Rounded.{is_rounded, one_rounded, rounded_positive}
pub use Rattle.scaled_decimal.specs.{Lower, Upper, rounded_decimal}
pub use Rattle.step_problem.specs.{lower_at, upper_at, declared.heads.Bound.Bound}
pub use Rattle.water_conductances.specs.{PairsEnclose, bed_below, column_half, face_formula, formula_of, has_depth, layer_half, least_units, most_units, pair_at_heads, row_half, saturated_span}
pub use Rattle.water_table.specs.{conductance_at, is_convertible, declared.convertible_layers.ConvertibleLayers.ConvertibleLayers}
