-- Names that several proofs of this crate cite, of the crates below and of its own definitions, passed on from one place. Declares nothing.
pub use Rattle.std.proofs.Common.{Bool, FitsSigned, None, Option, Some, ap, arith, cond, false, inl, inr, min, mul-pos, neg_ℤ, negsuc, of_z, pos, refl, rules, subst, suc, sym, to_z, true, zero, ℕ, ℤ}
pub use Rattle.std.proofs.Common.{◌*ℤ◌, ◌*◌, ◌+ℤ◌, ◌+◌, ◌-ℤ◌, ◌-◌, ◌/◌, ◌<ℤ◌, ◌<◌, ◌^◌, ◌∙◌, ◌≡◌, ◌≤ℤ◌, ◌≤◌, ◌⊎◌}
pub use Rattle.std.proofs.Math.Nat.{div-mul-le_self, le_of_mul-le-mul_right, lt-mul-div-succ, lt_of_mul-lt-mul_right, mul-le-mul, mul-le-mul_right, pow-suc}
pub use Rattle.std.proofs.lemmas.Bool.{cases_Bool, cases_lt, cond-false, cond-true, cond_above, cond_below, false≢true}
pub use Rattle.std.proofs.lemmas.Int.{by_lt_z, clamps, ints, to_z-of_z, to_z_pos}
pub use Rattle.std.specs.{Int.int_max, Int.int_min, Int.w128, Int.w64, Option.option_map}
pub use Rattle.std.specs.Prelude.{IfNone, IfSome, if◌then◌else◌, unsigned_abs, unwrap_or, ◌==◌}
pub use Rattle.conductance_bounds.specs.{AreBounds, AreThick, EvapsEnclose, FacesEnclose, FlowEncloses, FormulasHold, HeadsEnclose, Holds, IsBed, IsBetween, IsColHalf, IsHalf, IsHeadUnits, IsOrdered}
pub use Rattle.conductance_bounds.specs.{IsPassed, IsSlow, IsVertHalf, LiesWithin, Number, PairEncloses, Product, Quotient, RechargesEnclose, StoragesEnclose, Sum, Term, Within, area_formula, bed_of}
pub use Rattle.conductance_bounds.specs.{bed_span, blend, ceiling_of, column_exact, column_k, column_k_term, evap_exact, evap_formula, evap_term, exact, face_term, flow, head_floor_of, is_whole}
pub use Rattle.conductance_bounds.specs.{other, pair_below, part_term, recharge_exact, recharge_formula, resistance_sum, row_exact, row_term, signed_pair, small_flow, small_pair, storage_exact}
pub use Rattle.conductance_bounds.specs.{storage_formula, storage_of, storage_term, storativity_exact, storativity_term, thick_term, thickness_of, vertical_exact, vertical_k, vertical_k_term}
pub use Rattle.conductance_bounds.specs.{vertical_of, vertical_term, declared.head.HeadPair.HeadPair, declared.pair.Pair.Pair, declared.part.Part.Part, declared.span.Span.Span}
unfoldable pub use Rattle.conductance_bounds.specs.{bound, capped_flow, capped_pair, factors_of, given_pair, head_pair, pair, part, power_term, reach, span, sum_term, units_at}
pub use Rattle.decimal_input.proofs.{Differences.as_diff, Differences.diffs, Differences.same_diff, FloorLaws.add_times, FloorLaws.cancel_right, FloorLaws.last_factors_swap, FloorLaws.mul_mono_right}
pub use Rattle.decimal_input.proofs.{FloorLaws.neg_times, Orders.AtMost-refl, Orders.AtMost-trans, Orders.Same-AtMost, Orders.Same-back, Orders.Same-sym, Orders.Same-trans, Orders.den_over}
pub use Rattle.decimal_input.proofs.{Orders.den_plus, Orders.den_times, Orders.num_over, Orders.num_plus, Orders.num_times, Orders.over-AtMost, Orders.plus-AtMost, Orders.times-AtMost}
pub use Rattle.decimal_input.proofs.{Powers.cross_of, Powers.den_scaled, Powers.num_scaled, Powers.power_within, Powers.scaled-AtMost, Powers.scaled_shift, Powers.ten_pos, SameNumbers.Same-self}
pub use Rattle.decimal_input.proofs.{SameNumbers.over-Same, SameNumbers.over-positive, SameNumbers.plus-Same, SameNumbers.plus-positive, SameNumbers.times-Same, SameNumbers.times-positive}
pub use Rattle.decimal_input.proofs.{SignedFloors.ceiling_of_ceiling, SignedFloors.ceiling_of_floor, SignedFloors.floor_of_ceiling, SignedFloors.floor_of_floor, SignedFloors.sign_fits}
pub use Rattle.decimal_input.specs.{Encloses, EnclosesSigned, Fraction, IsCeiling, IsCeilingPast, IsFloor, IsFloorPast, IsSignedCeiling, IsSignedFloor, Passes, Ratio, Reaches, as_fraction, down}
pub use Rattle.decimal_input.specs.{number, over, size, up, with_sign, Ratios.AtMost, Ratios.Same, Ratios.den, Ratios.plus, Ratios.times, declared.dec.Dec.Dec}
unfoldable pub use Rattle.decimal_input.specs.{ratio, scaled_ratio}
pub use Rattle.model_types.specs.{EvapSource, IsModel, IsPositive, IsThick, IsTimed, bed_thickness, between_heads, bottom_at, cell_count, column_of, conductance, dec_at, delc_at, delr_at, gap}
pub use Rattle.model_types.specs.{hani_at, has_bed, hk_at, is_active, is_ratio, layer_size, lowest, multiplier, no_number, number_one, one, row_of, storativity, stride, thickness, top_at, two, vka_at}
pub use Rattle.model_types.specs.{vkcb_at, declared.model.FlowModel.FlowModel, declared.period.Period.Period}
unfoldable pub use Rattle.model_types.specs.{area, column_conductance, geometric, half, in_a_row, part_passed, power, row_conductance, storage, vertical_conductance, vertical_half}
pub use Rattle.scaled_decimal.proofs.Rounded.{is_ceiling, is_floor, is_rounded, one_ceiling, one_floor, one_rounded, rounded_positive}
pub use Rattle.scaled_decimal.specs.{AreOperands, HasSize, IsDown, IsNear, IsSd, IsUp, IsWithin, Lower, Side, Upper, in_units, rounded_decimal, value, declared.decimal.Sd.Sd}
