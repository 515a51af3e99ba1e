-- Names that several proofs of this crate cite, of the crates below and of its own definitions, passed on from one place. Declares nothing.
pub use Rattle.std.proofs.Common.{All, Bool, List, [], ap, arith, cond, false, inl, inr, mul-pos, negsuc, pos, refl, subst, suc, sym, true, zero, ℕ, ℤ, ◌*ℤ◌, ◌*◌, ◌+ℤ◌, ◌-ℤ◌, ◌<ℤ◌, ◌<◌, ◌∷◌, ◌≡◌}
pub use Rattle.std.proofs.Math.IntN.{*ℤ-zero, zero-*ℤ}
pub use Rattle.std.proofs.{lemmas.Bool.cases_eq, lemmas.Bool.false≢true, lemmas.Int.by_lt_z, lemmas.Int.clamps, lemmas.Int.ints}
pub use Rattle.std.specs.Prelude.{slice_index_or, ◌^◌}
pub use Rattle.cell_balance.proofs.Enclosing.{below_over, le_over, over_le, same_over}
pub use Rattle.cell_balance.proofs.Scaling.{IsOver-greater, IsOver-lesser, IsOver-minus, IsOver-none, IsOver-plus, IsOver-signed, IsOver-times}
pub use Rattle.cell_balance.specs.{IsBelow, greater, lesser, minus}
pub use Rattle.decimal_input.proofs.FloorLaws.{le-add, le-of, neg_times}
pub use Rattle.decimal_input.specs.{Fraction, IsDec, IsOver, Ratio, as_fraction, number, size, whole, Fractions.AtMost, Fractions.Same, Fractions.den}
unfoldable pub use Rattle.decimal_input.specs.{over}
pub use Rattle.model_types.specs.{IsEntryValid, IsHeadNumber, IsModel, IsNotNegative, IsPositive, IsTimed, area, bottom_at, constant_faces, dec_at, is_variable, no_number, one, period_at, start_head}
pub use Rattle.model_types.specs.{step_length, storage_capacity, top_at, variable_cells, variable_faces, declared.face.Axis.TheVariants.Column, declared.face.Axis.TheVariants.Row}
pub use Rattle.model_types.specs.{declared.face.Axis.TheVariants.Vertical, declared.model.FlowModel.FlowModel}
pub use Rattle.step_problem.proofs.Leasts.{mul_assoc, mul_mono, mul_sub}
pub use Rattle.water_table.specs.{FallsGently, FallsWithin, GainsAtLeast, HasSigns, HasSignsAt, HasTwoSolutions, IsGentle, IsWithin, LosesAtLeast, LosesByCases, NearlySolves, ThickBranchesAreConfined}
pub use Rattle.water_table.specs.{compressed_water, drainable_water, is_convertible, listed_heads, middle_balance, middle_head, middle_history, narrow_pair, only_step, over_fall, pumped_layers}
pub use Rattle.water_table.specs.{pumped_model, pumping, water_balance, declared.convertible_layers.ConvertibleLayers.ConvertibleLayers}
