-- Names that several proofs of this crate cite, of the crates below and of its own definitions, passed on from one place. Declares nothing.
pub use Rattle.std.proofs.Common.{All, Bool, FitsSigned, IsTrue, List, None, Option, Some, [], ap, arith, cond, false, inl, inr, length, mul-pos, neg_ℤ, pos, refl, rules, subst, sym, take, true, ℕ, ℤ}
pub use Rattle.std.proofs.Common.{◌*ℤ◌, ◌*◌, ◌+ℤ◌, ◌+◌, ◌-ℤ◌, ◌-◌, ◌<ℤ◌, ◌<◌, ◌^◌, ◌↔◌, ◌∙◌, ◌∷◌, ◌≡◌, ◌≤ℤ◌, ◌≤◌, ◌⊎◌}
pub use Rattle.std.proofs.{lemmas.Bool.cases_Bool, lemmas.Bool.cases_eq, lemmas.Bool.false≢true, lemmas.Bool.true≢false, lemmas.Int.by_lt_z, lemmas.Int.clamps, lemmas.Int.ints, lemmas.Int.to_z-of_z}
pub use Rattle.std.specs.Int.{w128}
pub use Rattle.std.specs.Prelude.{unsigned_abs, ◌||◌}
pub use Rattle.cell_balance.proofs.{Enclosing.le_over, Enclosing.over_le, Scaling.IsOver-lesser, Scaling.IsOver-minus}
pub use Rattle.cell_balance.specs.{IsBelow, lesser, minus, share}
pub use Rattle.decimal_input.proofs.FloorLaws.{AtMost-trans, cancel_right, mul_mono_right, neg_times}
pub use Rattle.decimal_input.specs.{Fraction, IsCeilingPast, IsDec, IsFloorPast, IsOver, IsSignedCeiling, IsSignedFloor, as_fraction, number, size, with_sign, Fractions.AtMost, Fractions.den}
pub use Rattle.gentle_heads.specs.{AllBetweenAreGentle, AreGentleBetween, FallsAlong, FallsFrom, FallsThrough, IsGentleAt, IsOverBottom, lower_head, upper_head}
pub use Rattle.model_types.specs.{IsModel, bottom_at, cell_count, faces, gap, is_active, is_constant, is_variable, layer_size, thickness, through, top_at, declared.face.Face.Face}
pub use Rattle.model_types.specs.{declared.model.FlowModel.FlowModel}
pub use Rattle.problem_builder.proofs.Elevations.{bottom_valid, top_valid}
pub use Rattle.step_problem.specs.{IsMagnitudeAtMost, lower_at, upper_at, declared.heads.Bound.Bound}
pub use Rattle.water_table.proofs.Orders.{AtMost-of, among, below_then_at_most, common_denominator_exists, minus_rises, own_over}
pub use Rattle.water_table.specs.{FallsGently, FallsWithin, IsFull, IsGentle, is_convertible, declared.convertible_layers.ConvertibleLayers.ConvertibleLayers}
