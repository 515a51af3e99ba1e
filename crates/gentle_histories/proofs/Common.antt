-- Names that several proofs of this crate cite, of the crates below and of its own definitions, passed on from one place. Declares nothing.
pub use Rattle.std.proofs.Common.{All, Bool, List, [], ap, arith, cond, false, inl, inr, map, mul-pos, neg_ℤ, negsuc, pos, refl, subst, suc, sym, true, zero, ℕ, ℤ, ◌*ℤ◌, ◌*◌, ◌++◌, ◌+ℤ◌, ◌+◌, ◌-ℤ◌}
pub use Rattle.std.proofs.Common.{◌<ℤ◌, ◌<◌, ◌∙◌, ◌∷◌, ◌≡◌, ◌≤ℤ◌, ◌≤◌, ◌⊎◌}
pub use Rattle.std.proofs.{Math.Nat.mod-le, Math.Nat.mul-le-mul_left, Math.Nat.mul-le-mul_right, lemmas.Bool.and_parts, lemmas.Bool.cases_Bool, lemmas.Bool.cases_eq, lemmas.Bool.cases_lt}
pub use Rattle.std.proofs.{lemmas.Bool.eq-eqb, lemmas.Bool.false≢true, lemmas.Bool.ne_eqb, lemmas.Int.by_lt_z, lemmas.Int.clamps, lemmas.Int.ints, lemmas.List.Elements.All-cons}
pub use Rattle.std.proofs.{lemmas.List.Elements.All-from_get_or, lemmas.List.Elements.All-get_or, lemmas.List.Elements.All-head, lemmas.List.Elements.All-nil, lemmas.List.Elements.All-tail}
pub use Rattle.std.specs.Prelude.{nat_eq, not, unsigned_abs, ◌&&◌, ◌^◌}
pub use Rattle.cell_balance.proofs.Enclosing.{below_over, le_over, over_le}
pub use Rattle.cell_balance.proofs.Scaling.{IsOver-greater, IsOver-lesser, IsOver-minus, IsOver-negated, IsOver-plus, IsOver-signed, IsOver-times}
pub use Rattle.cell_balance.specs.{ExactDrain, ExactEvap, ExactFixed, ExactRiver, IsBelow, drain_flow, evap_flow, fixed_flow, greater, lesser, link_flow, minus, river_flow, share}
pub use Rattle.decimal_input.proofs.FloorLaws.{AtMost-trans, add_times, cancel_right, mul_mono_right, neg_times}
pub use Rattle.decimal_input.specs.{Fraction, IsOver, IsShare, Ratio, as_fraction, fraction_total, number, opposite, over, size, whole, Fractions.AtMost, Fractions.plus, Fractions.times, Ratios.den}
pub use Rattle.exact_solutions.proofs.WholeSolutions.{share_is_over}
pub use Rattle.flow_equations.proofs.{Downwards.IsValue, Downwards.own_value, Downwards.value_over, Downwards.value_plus, Downwards.value_times, Downwards.value_two, GivenAtSteps.over_multiple}
pub use Rattle.gentle_histories.specs.{AreAllGentle, AreAllGentleFrom, HistoriesExist, PumpedCellHasHistory}
pub use Rattle.model_types.proofs.{Leads.IsFaceOf, Leads.before_le, Leads.end_within, Leads.passing_are, Members.All-In, Members.In, Members.In-All}
pub use Rattle.model_types.specs.{IsModel, area, bed_thickness, bottom_at, cell_count, constant_faces, dec_at, delc_at, delr_at, hani_at, hk_at, index_of, is_active, is_constant, is_variable}
pub use Rattle.model_types.specs.{layer_size, one, period_at, span, start_head, step_length, storage_capacity, stride, top_at, two, variable_cells, variable_faces, vertical_conductivity, vkcb_at}
pub use Rattle.model_types.specs.{declared.face.Axis.TheVariants.Column, declared.face.Axis.TheVariants.Row, declared.face.Axis.TheVariants.Vertical, declared.face.Face.Face}
pub use Rattle.model_types.specs.{declared.model.FlowModel.FlowModel, declared.time_steps.TimeStep.TimeStep}
pub use Rattle.step_problem.proofs.Leasts.{mul_add, mul_assoc, mul_mono}
pub use Rattle.water_enclosure.proofs.{Cells.bottom_is_below_top, Cells.conductivity_some, Cells.delc_some, Cells.delr_some, Cells.factor_some, Cells.hani_some, Cells.hk_some, Cells.variable_active}
pub use Rattle.water_enclosure.proofs.{Linked.index_names_cell, Linked.index_within, Linked.variable_at, Order.greater_balances_lie_lower, Order.known_at, Order.variable_at_head, Pairs.CellAt}
pub use Rattle.water_enclosure.proofs.{Pairs.IsWetAt, Pairs.IsWetCell, Pairs.share_g, Pairs.share_h, Pairs.some_g, Pairs.some_h, Pairs.thick_g, Pairs.thick_h, Pairs.thinner_within, Thick.CellOver}
pub use Rattle.water_enclosure.proofs.{Thick.thick_rises, Thick.thick_share}
pub use Rattle.water_table.proofs.Orders.{AtMost-of, among, below_then_at_most, common_denominator_exists, minus_rises, own_over, plus_rises, ratio_over}
pub use Rattle.water_table.specs.{FallsGently, FallsWithin, GainsAtLeast, HasSignsAt, HasSignsFrom, IsGentle, IsWithin, LieInPairs, LiesInPair, ListedPair, LosesAtLeast, NearlySolvesAt}
pub use Rattle.water_table.specs.{NearlySolvesFrom, branch, compressed_water, conductance_at, constant_branch, convertible_cell, drainable_water, general_branches, heads_at, is_convertible}
pub use Rattle.water_table.specs.{listed_heads, narrow_pair, only_step, pumped_layers, pumped_model, variable_branch, variable_cell, water_balance}
pub use Rattle.water_table.specs.declared.convertible_layers.ConvertibleLayers.{ConvertibleLayers}
