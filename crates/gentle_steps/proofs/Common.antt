-- Names that several proofs of this crate cite, of the crates below and of its own definitions, passed on from one place. Declares nothing.
pub use Rattle.std.proofs.Common.{Bool, FitsSigned, List, None, Option, Some, [], ap, arith, below_more, cond, false, get_or, inr, length, map, refl, rules, subst, sym, take, true, ℕ, ℤ, ◌++◌, ◌<◌}
pub use Rattle.std.proofs.Common.{◌^◌, ◌∙◌, ◌∷◌, ◌≡◌, ◌≤ℤ◌}
pub use Rattle.std.proofs.{lemmas.Bool.false≢true, lemmas.Int.ints, lemmas.Int.to_z-of_z, lemmas.List.FromFn.get_or-map-range_with_len, lemmas.List.FromFn.length-map-range_with_len}
pub use Rattle.std.proofs.{lemmas.List.FromFn.map-range_with_len_more, lemmas.Result.IfErr-weaker, lemmas.Result.err_from_is_err_and}
pub use Rattle.std.specs.List.{range_with_len}
pub use Rattle.std.specs.Prelude.{IfErr, IfOk, IsTrue, MatchOption, not, ◌&&◌, ◌+ℤ◌}
pub use Rattle.cell_relax.specs.{AreWords, head_of, heads_on}
pub use Rattle.decimal_input.proofs.FloorLaws.{cancel_right, le-trans, mul_mono_right}
pub use Rattle.decimal_input.specs.{EnclosesSigned, Fraction, Fractions.den}
pub use Rattle.gentle_check.proofs.Balances.{own_bounds}
pub use Rattle.gentle_check.specs.{HaveSide, one_head, whole_balance}
pub use Rattle.gentle_problem.specs.{branches_at}
pub use Rattle.gentle_steps.specs.{ConstantsReach, FailsBy, HasNoSideProblem, HasSign, HasSignAt, HeadsHold, HeldStepsHaveSigns, IsGentlyListed, IsSideProblem, IsUnposed, ReachesAt, ReachesOn}
pub use Rattle.gentle_steps.specs.{StoredWaterFits, at_constant, at_variable, no_high_problem, no_low_problem, no_storage, of_bound, side_bound, side_bounds, variable_bounds}
pub use Rattle.model_types.proofs.Ranks.{IsAt}
pub use Rattle.model_types.specs.{IsModel, cell_count, constant_head, is_active, is_constant, is_variable, variable_cells, declared.model.FlowModel.FlowModel, declared.time_steps.TimeStep.TimeStep}
pub use Rattle.problem_builder.proofs.{BoundsOf.constant_head_is_enclosed, BoundsOf.head_range, TimesOf.time_of}
pub use Rattle.problem_builder.specs.{AreConstantHeads, AreGridHeads, ArePeriodTables, HeadsEnclose, IsActive, IsFaultOver, IsProblemOver, IsTimeOf, bound_at, constant_bound, known_bound}
pub use Rattle.step_problem.specs.{IsHead, balance, entries_at, lower_at, no_bound, no_entries, upper_at, Entries.Entries, declared.heads.Bound.Bound, declared.heads.Side.Side}
pub use Rattle.step_problem.specs.{declared.heads.Side.TheVariants.High, declared.heads.Side.TheVariants.Low}
pub use Rattle.water_conductances.specs.{AreOrdered}
pub use Rattle.water_enclosure.proofs.{Linked.variable_at, Order.known_at, Order.variable_at_head}
pub use Rattle.water_storage.specs.{ArePairs, stored_flow}
pub use Rattle.water_table.specs.{listed_heads, variable_cell, declared.convertible_layers.ConvertibleLayers.ConvertibleLayers}
