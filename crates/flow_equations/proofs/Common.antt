-- Names that several proofs of this crate cite, of the crates below and of its own definitions, passed on from one place. Declares nothing.
pub use Rattle.std.proofs.Common.{Bool, List, None, Option, Some, [], ap, arith, cond, false, get_or, inl, inr, length, map, mul-pos, neg_ℤ, negsuc, pos, refl, subst, suc, sym, take, true, zero, ℕ, ℤ}
pub use Rattle.std.proofs.Common.{◌%◌, ◌&&◌, ◌*ℤ◌, ◌*◌, ◌++◌, ◌+ℤ◌, ◌+◌, ◌-ℤ◌, ◌-◌, ◌<◌, ◌^◌, ◌||◌, ◌∙◌, ◌∷◌, ◌≡◌, ◌≤ℤ◌, ◌≤◌, ◌⊎◌}
pub use Rattle.std.proofs.{Math.Nat.add-sub_cancel_left, Math.Nat.mul-le-mul_left, Math.Nat.one-le-pow, lemmas.Bool.and_parts, lemmas.Bool.cases_lt, lemmas.Bool.cond-true, lemmas.Bool.eqb-true}
pub use Rattle.std.proofs.{lemmas.Bool.false≢true, lemmas.Bool.le-leb, lemmas.Bool.ne_eqb, lemmas.Bool.not-true, lemmas.Bool.or_cases, lemmas.Bool.or_right, lemmas.Int.clamps, lemmas.Int.ints}
pub use Rattle.std.proofs.{lemmas.List.append-nil, lemmas.List.get_or-map, lemmas.List.get_or-replicate, lemmas.List.length-map, lemmas.List.length-replicate, lemmas.List.reverse-append}
pub use Rattle.std.proofs.{lemmas.List.take_all, lemmas.List.take_more, lemmas.List.Folds.find-append, lemmas.List.Folds.list_any-append}
pub use Rattle.std.specs.{List.filter_map, List.find, List.flat_map, List.list_any, List.range_with_len, Option.option_or, Option.option_to_list}
pub use Rattle.std.specs.Prelude.{All, Contains, nat_lt, replicate, reverse, unsigned_abs, ◌==◌}
pub use Rattle.cell_balance.proofs.Enclosing.{same_over}
pub use Rattle.cell_balance.proofs.Scaling.{IsOver-greater, IsOver-minus, IsOver-negated, IsOver-none, IsOver-plus, IsOver-signed, IsOver-times}
pub use Rattle.cell_balance.specs.{AreLinked, ExactCell, ExactFlow, ExactLink, HasLinkBack, SolvesStep, cell_at, greater, minus, no_cell, no_link, share}
pub use Rattle.decimal_input.proofs.{Differences.as_diff, Differences.diffs, Differences.same_diff, FloorLaws.AtMost-trans, FloorLaws.last_factors_swap, FloorLaws.neg_times, Orders.Same-trans}
pub use Rattle.decimal_input.proofs.{Orders.den_over, Orders.den_plus, Orders.den_times, Orders.num_over, Orders.num_plus, Orders.num_times, SameNumbers.Same-of, SameNumbers.Same-self}
pub use Rattle.decimal_input.proofs.{SameNumbers.over-Same, SameNumbers.plus-Same, SameNumbers.plus-comm, SameNumbers.times-Same}
pub use Rattle.decimal_input.specs.{Fraction, IsDec, IsOver, IsShare, Ratio, as_fraction, number, opposite, size, up, whole, with_sign, Fractions.den, Ratios.AtMost, Ratios.Same, declared.dec.Dec.Dec}
unfoldable pub use Rattle.decimal_input.specs.{over, ratio, scaled_ratio, Ratios.plus, Ratios.times}
pub use Rattle.flow_equations.specs.{AreAlike, AreAlikeInAColumn, ChoosesOneCell, Evaporates, FlowsChangeSign, HasEqualSteps, HasGivenHead, HasManualSteps, HasVerticalConductivity, IsBetweenHalves}
pub use Rattle.flow_equations.specs.{IsOneMaterial, IsSameFromBothEnds, Lasts, LayersFillTheSpace, ReceivesRecharge, Solves, StoresByOption, below_zero, cell, decimal, distance, exact_cell}
pub use Rattle.flow_equations.specs.{exact_evap, exact_flow, exact_link, exact_step, heads_of, idle_wells, one_cell, period_with, ratio_total, recharge_of, row_model, row_of_cells, three_cells}
pub use Rattle.flow_equations.specs.{two_cells, variable_heads}
pub use Rattle.model_types.proofs.Members.{All-In, Contains-In, In, In-map, Ordered, Ordered-at, filter_map-In, map-In}
pub use Rattle.model_types.proofs.Ranks.{IsAt, at_rank, is_at, passing, range_more, rank, rank_below}
pub use Rattle.model_types.specs.{AreStresses, EvapSource, FlowSource, HasSize, IsCellValid, IsEntryList, IsEntryValid, IsGrid, IsHeadNumber, IsModel, IsNotNegative, IsPeriod, IsPositive, IsThick}
pub use Rattle.model_types.specs.{IsTimed, Pumped, Received, as_well, bed_thickness, between_heads, bottom_at, cell_count, dec_at, delc_at, delr_at, evap_conductance, gap, hani_at, head_or_kept}
pub use Rattle.model_types.specs.{hk_at, index_of, int_at, is_active, is_chosen, is_constant, is_highest, is_int, is_variable, kept_head, last_given, layer_of, layer_size, local_entries, lowest}
pub use Rattle.model_types.specs.{multiplier, no_number, no_period, no_stresses, one, period_at, place_in_layer, start_head, storage_capacity, thickness, top_at, two, variable_cells, variable_faces}
pub use Rattle.model_types.specs.{vertical_conductivity, vka_at, vkcb_at, declared.entry.Entry.Entry, declared.entry.Entry.TheVariants.Well, declared.model.FlowModel.FlowModel}
pub use Rattle.model_types.specs.{declared.period.Period.Period}
unfoldable pub use Rattle.model_types.specs.{area, column_conductance, constant_head, entries_of, geometric, given_in, half, in_a_row, part_passed, power, row_conductance, step_length, storage}
unfoldable pub use Rattle.model_types.specs.{variable_below, vertical_conductance, vertical_half}
pub use Rattle.step_problem.proofs.Leasts.{mul_assoc, mul_neg}
