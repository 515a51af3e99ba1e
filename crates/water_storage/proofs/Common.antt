-- Names that several proofs of this crate cite, of the crates below and of its own definitions, passed on from one place. Declares nothing.
pub use Rattle.std.proofs.Common.{Bool, FitsSigned, None, Option, Some, [], ap, arith, cond, false, le_of_mul-le-mul_right, mul-pos, neg_ℤ, negsuc, pos, refl, rules, subst, suc, sym, true, ℕ, ℤ, ◌*ℤ◌}
pub use Rattle.std.proofs.Common.{◌*◌, ◌+ℤ◌, ◌+◌, ◌-ℤ◌, ◌-◌, ◌<ℤ◌, ◌<◌, ◌^◌, ◌∙◌, ◌∷◌, ◌≡◌, ◌≤ℤ◌, ◌≤◌}
pub use Rattle.std.proofs.lemmas.Int.{by_lt_z, clamps, ints, to_z-of_z}
pub use Rattle.std.specs.Int.{int_max, int_min, w128, w64}
pub use Rattle.std.specs.Prelude.{IfNone, IfSome, unsigned_abs}
pub use Rattle.cell_balance.proofs.{Denominators.Goes-first, Denominators.Goes-second, Denominators.fraction_over, Enclosed.between_over, Enclosing.enclosed_over, Enclosing.none_encloses}
pub use Rattle.cell_balance.proofs.{Enclosing.over_le, Enclosing.plus_encloses, Enclosing.same_over, Scaling.IsOver-greater, Scaling.IsOver-lesser, Scaling.IsOver-minus, Scaling.IsOver-none}
pub use Rattle.cell_balance.proofs.{Scaling.IsOver-plus, Scaling.IsOver-times, Scaling.max_times, Scaling.min_times}
pub use Rattle.cell_balance.specs.{ExactFixed, greater, lesser, minus}
pub use Rattle.conductance_bounds.proofs.Units.{ceiling_units, floor_units, units_ceiling, units_floor}
pub use Rattle.conductance_bounds.specs.{small_pair, storage_of, storage_term, declared.pair.Pair.Pair, declared.storage.Factors.Factors}
pub use Rattle.decimal_input.proofs.FloorLaws.{cancel_right, floor_ceiling_enclose, last_factors_swap, le-antisym, le-of, mul_mono_right}
pub use Rattle.decimal_input.specs.{Encloses, EnclosesSigned, Fraction, IsCeilingPast, IsDec, IsFloorPast, IsOver, IsSignedCeiling, IsSignedFloor, Ratio, as_fraction, number, over, size, whole}
pub use Rattle.decimal_input.specs.{Fractions.AtMost, Fractions.Same, Fractions.den, Fractions.plus, Fractions.times, declared.dec.Dec.Dec}
pub use Rattle.flow_equations.specs.{Lasts}
pub use Rattle.model_types.specs.{IsModel, IsNotNegative, IsPositive, IsThick, bottom_at, dec_at, delc_at, delr_at, one, period_at, storage_capacity, thickness, top_at}
pub use Rattle.model_types.specs.{declared.model.FlowModel.FlowModel, declared.period.Period.Period}
pub use Rattle.problem_builder.proofs.{Fits.capped_encloses, Fits.kept_pair, TimesOf.time_of}
pub use Rattle.problem_builder.specs.{AreStepTables, IsActive, IsTimeOf, storage_pair}
pub use Rattle.scaled_decimal.specs.{Lower, Upper}
pub use Rattle.step_problem.specs.{IsHead, IsMagnitudeAtMost, branch_flow, declared.heads.Bound.Bound, declared.heads.Side.Side, declared.heads.Side.TheVariants.High}
pub use Rattle.step_problem.specs.{declared.heads.Side.TheVariants.Low}
pub use Rattle.water_storage.specs.{ArePairs, IsSmallPair, IsTop, StoredFlowsEnclose, confined_flow, crossing_flow, fall_flow, fall_on, greater_bound, lesser_bound, stored_flow, top_bound, yield_pair}
pub use Rattle.water_table.proofs.Cases.{stored}
pub use Rattle.water_table.specs.{is_convertible, with_yield, declared.convertible_layers.ConvertibleLayers.ConvertibleLayers}
