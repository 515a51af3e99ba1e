-- Names that several proofs of this crate cite, of the crates below and of its own definitions, passed on from one place. Declares nothing.
pub use Rattle.std.proofs.Common.{All, Bool, FitsSigned, List, None, Option, Some, [], ap, arith, cond, false, get_or, inl, inr, length, map, neg_ℤ, negsuc, pos, refl, replicate, rules, set}
pub use Rattle.std.proofs.Common.{slice_index_or, subst, suc, sym, take, true, zero, ℕ, ℤ, ◌%◌, ◌*ℤ◌, ◌*◌, ◌++◌, ◌+ℤ◌, ◌+◌, ◌-ℤ◌, ◌-◌, ◌/◌, ◌<◌, ◌^◌, ◌∙◌, ◌∷◌, ◌≡◌, ◌≤ℤ◌, ◌≤◌, ◌⊎◌}
pub use Rattle.std.proofs.lemmas.Bool.{and_parts, cases_eq, cases_order, eq-eqb, false≢true, leb-false, ne_eqb, or_parts}
pub use Rattle.std.proofs.lemmas.Int.{by_lt_z, int_max_is, int_min_is, ints, to_z-of_z}
pub use Rattle.std.proofs.lemmas.List.{append-nil, append_assoc, get_or-map, get_or-replicate, get_or-set_other, get_or-set_same, get_or_append_left, get_or_push, get_or_read, length-map}
pub use Rattle.std.proofs.lemmas.List.{length-replicate, length_push, map-append, map-set, reverse-append, take_all, take_more}
pub use Rattle.std.proofs.lemmas.List.Elements.{All-append, All-filter, All-nil, All-replicate, All-weaker, filter-append, filter_map-append}
pub use Rattle.std.proofs.lemmas.List.FromFn.{fill_by_all, get_or-map-range_with_len, length-map-range_with_len, map-range_with_len_more}
pub use Rattle.std.proofs.lemmas.Option.{none-some}
pub use Rattle.std.proofs.lemmas.Result.{IfErr-weaker, IfOk-weaker, err_from_is_err_and}
pub use Rattle.std.specs.{Int.int_max, Int.int_min, Int.w64, List.AllZip, List.Contains, List.cons_option, List.filter, List.filter_map, List.find, List.flat_map, List.fold, List.list_any}
pub use Rattle.std.specs.{List.range_with_len, Option.option_map, Option.option_to_list, Option.unwrap_or}
pub use Rattle.std.specs.Prelude.{Err, IfSome, Ok, Result, int_lt, nat_le, nat_lt, not, reverse, sum_by, unsigned_abs, ◌&&◌, ◌==◌, ◌||◌}
pub use mathlib.Core.List.{map-id, map-map}
pub use Rattle.cell_balance.specs.{CellEncloses, DrainEncloses, EnclosesStep, EvapEncloses, ExactCell, ExactFixed, ExactLink, FixedEncloses, FlowEncloses, LinkEncloses, RiverEncloses}
pub use Rattle.conductance_bounds.proofs.{Capped.capped_ordered, Capped.real_flow, Capped.real_pair, FaceBounds.cell_below_means_layers, FaceBounds.faces_enclose, FaceBounds.no_gap}
pub use Rattle.conductance_bounds.proofs.{ModelBounds.evap_holds, ModelBounds.evaps_enclose, ModelBounds.formulas_hold, ModelBounds.recharges_enclose, ModelBounds.storages_enclose}
pub use Rattle.conductance_bounds.proofs.{Ready.delc_positive, Ready.delr_positive, SpanBounds.above_gap, SpanBounds.below_gap, SpanBounds.equal_powers, SpanBounds.thick_positive}
pub use Rattle.conductance_bounds.specs.{AreThick, IsBed, IsColHalf, IsHalf, IsHeadUnits, IsUsable, IsVertHalf, Number, PairEncloses, Term, Within, area_term, blend, bound, column_of, evap_formula}
pub use Rattle.conductance_bounds.specs.{evap_term, face_term, part, recharge_formula, recharge_term, row_of, small_flow, small_pair, storage_formula, storage_of, storage_term, storativity_term}
pub use Rattle.conductance_bounds.specs.{sum_term, thick_span, thickness_of, vertical_of, declared.pair.FlowPair.FlowPair, declared.pair.Pair.Pair, declared.span.Span.Span}
unfoldable pub use Rattle.conductance_bounds.specs.{capped_flow, capped_pair, given_pair, head_pair, power_term}
pub use Rattle.decimal_input.proofs.FloorLaws.{cancel_right, floor_ceiling_enclose, mul_mono_right, one_ceiling, one_floor}
pub use Rattle.decimal_input.specs.{Encloses, EnclosesSigned, Fraction, IsDec, IsSignedCeiling, IsSignedFloor, Ratio, number, opposite, size, with_sign, Fractions.den, Fractions.plus}
pub use Rattle.decimal_input.specs.{declared.dec.Dec.Dec}
pub use Rattle.flow_equations.proofs.Links.{Ordered-map, are_linked, below_is, index_is}
pub use Rattle.model_types.proofs.GivenTables.{length_is, names_within, table, table_at, table_none, table_step}
pub use Rattle.model_types.proofs.Leads.{IsFaceOf, after_within, before_back, before_le, end_other, end_within, ends_ascend, face_back, faces_within, few_faces, first_within, passing_are}
pub use Rattle.model_types.proofs.Leads.{passing_have, turned}
pub use Rattle.model_types.proofs.Members.{All-In, Contains-In, In, In-All, In-filter_map, In-get_or, In-map, Ordered, Ordered-at, filter_map-In, map-In}
pub use Rattle.model_types.proofs.Ranks.{IsAt, at_rank, fails_next, is_at, passes_next, passing, range_more, rank, rank_apart, rank_below, rank_fails, rank_few, rank_passes}
pub use Rattle.model_types.specs.{DrainSource, EvapSource, FixedSource, FlowSource, FromStorage, HasSize, IsBedValid, IsEntryValid, IsEvapValid, IsGivenValid, IsHeadNumber, IsInGrid, IsModel}
pub use Rattle.model_types.specs.{IsNotNegative, IsPeriod, IsPositive, IsThick, Pumped, Received, RiverSource, ToConstant, ToGeneral, as_drain, as_general, as_river, as_well, bed_thickness, bottom_at}
pub use Rattle.model_types.specs.{cell_count, cell_of, conductance, constant_faces, dec_at, delc_at, delr_at, drain_sources, entries, evap_at, evap_conductance, evap_source, evap_sources, extinction}
pub use Rattle.model_types.specs.{face_after, faces, fixed_sources, flow_sources, has_after, has_bed, head_or_kept, index_of, int_at, is_active, is_chosen, is_constant, is_highest, is_int}
pub use Rattle.model_types.specs.{is_variable, kept_head, kind_of, last_given, layer_of, layer_size, local_entries, lowest, most_cells, no_period, number_one, period_at, place_in_layer, recharge_at}
pub use Rattle.model_types.specs.{recharge_flow, river_sources, span, start_head, steps_of, storage, storage_at, stride, thickness, through, top_at, variable_below, variable_cells, variable_faces}
pub use Rattle.model_types.specs.{vkcb_at, declared.entry.Entry.Entry, declared.entry.Entry.TheVariants.Well, declared.face.Axis.Axis, declared.face.Axis.TheVariants.Column}
pub use Rattle.model_types.specs.{declared.face.Axis.TheVariants.Row, declared.face.Axis.TheVariants.Vertical, declared.face.Face.Face, declared.given_heads.Kind.TheVariants.NoFlow}
pub use Rattle.model_types.specs.{declared.given_heads.Kind.TheVariants.Variable, declared.grid.Grid.Grid, declared.limits.Limits.TheVariants.Wide, declared.model.FlowModel.FlowModel}
pub use Rattle.model_types.specs.{declared.period.Period.Period, declared.time_steps.TimeStep.TimeStep}
unfoldable pub use Rattle.model_types.specs.{constant_head, entries_of, given_heads, given_in, kinds, times}
pub use Rattle.model_types.specs.declared.entry.Given.{Given}
pub use Rattle.number_limits.proofs.Canonical.{dec_at_is}
pub use Rattle.problem_builder.specs.{AreAppended, AreBranches, AreCells, AreCellsOver, AreEntriesIn, AreEvenFactors, AreEvenStorages, AreFactorsOf, AreGridHeads, AreLocalBounds, ArePeriodTables}
pub use Rattle.problem_builder.specs.{AreStartHeads, AreTables, Branches, ConstantPairEncloses, ConstantPairFits, Filled, HasConductance, HasEvenSteps, HasEvenStorage, HasNoProblem, HasOldHeads}
pub use Rattle.problem_builder.specs.{HasPairs, HasStorage, HeadsEnclose, Inputs, IsActive, IsBedBelow, IsBedOf, IsBranch, IsBuildFault, IsBuilt, IsCellFault, IsCellNamed, IsDepth, IsEntryIn}
pub use Rattle.problem_builder.specs.{IsEvaporated, IsFaultOver, IsGivenIn, IsIndex, IsKept, IsKind, IsNoBed, IsProblemOf, IsProblemOver, IsRecharged, IsThickness, IsTimeOf, ModelsAreBuildable}
pub use Rattle.problem_builder.specs.{bound_of_pair, branches_of, cell_over, cond_pair, constant_over, face_pair, fixed_over, flow_of_pair, general_of, given_or_kept, has_small_branch, head_bound}
pub use Rattle.problem_builder.specs.{is_branch, item_in, kept_bound, kept_bounds, known_bound, known_head, layer_half, link_over, local_in, model_branches, no_bounds, no_pair, no_span, pair_at}
pub use Rattle.problem_builder.specs.{pair_in, problem_over, recharge_pair, refusal_of, sources_over, span_in, start_bound, step_over, unless_refused, well_of, well_pair, whole_cell, whole_drain}
pub use Rattle.problem_builder.specs.{whole_evap, whole_fixed, whole_flow, whole_river, whole_step, widest, LocalBounds.LocalBounds, declared.tables.Tables.Tables}
unfoldable pub use Rattle.problem_builder.specs.{constant_bound, fault_of, problem_of}
pub use Rattle.step_problem.specs.{CellFits, DrainFits, EvapFits, FixedFits, IsHead, IsProblem, LinkFits, LinksFit, RiverFits, conductance_of, entries_at, flow_magnitude, head_limit, lower_at}
pub use Rattle.step_problem.specs.{magnitude, no_bound, no_entries, no_link, upper_at, Entries.Entries, declared.entry.Fixed.Fixed, declared.entry.FixedKind.TheVariants.Constant}
pub use Rattle.step_problem.specs.{declared.entry.FixedKind.TheVariants.General, declared.entry.FixedKind.TheVariants.Storage, declared.entry.Flow.Flow, declared.entry.Link.Link}
pub use Rattle.step_problem.specs.{declared.heads.Bound.Bound, declared.heads.Side.TheVariants.Low, declared.place.NoBound.NoBound, declared.place.Place.TheVariants.Cell}
pub use Rattle.step_problem.specs.{declared.refusal.BoundFault.BoundFault, declared.refusal.BoundFault.TheVariants.Memory}
