-- Names that several proofs of this crate cite, of the crates below and of its own definitions, passed on from one place. Declares nothing.
pub use Rattle.std.proofs.Common.{All, Bool, Err, List, MatchBool, MatchOption, None, Ok, Option, Result, Some, [], ap, arith, cond, false, get_or, inl, inr, length, lit<, map, mul-pos, neg_ℤ, pos}
pub use Rattle.std.proofs.Common.{refl, reverse, subst, suc, sym, take, true, zero, ℕ, ℤ, ◌*ℤ◌, ◌*◌, ◌++◌, ◌+ℤ◌, ◌+◌, ◌-◌, ◌/◌, ◌<◌, ◌^◌, ◌∙◌, ◌∷◌, ◌≡◌, ◌≤ℤ◌, ◌≤◌, ◌⊎◌}
pub use Rattle.std.proofs.{lemmas.Bool.and_parts, lemmas.Bool.cases_lt, lemmas.Bool.cases_order, lemmas.Bool.cond_above, lemmas.Bool.cond_below, lemmas.Int.by_lt_z, lemmas.Int.clamps, lemmas.Int.ints}
pub use Rattle.std.proofs.{lemmas.List.get_or-take, lemmas.List.get_or_default, lemmas.List.length-take-le, lemmas.List.reverse-append, lemmas.List.take_more, lemmas.List.Elements.All-cons}
pub use Rattle.std.proofs.{lemmas.List.Elements.All-head, lemmas.List.Elements.All-more, lemmas.List.Elements.All-nil, lemmas.List.Elements.All-tail, lemmas.List.Elements.AllZip-get_or}
pub use Rattle.std.proofs.{lemmas.Option.get_or_from_slice_get, lemmas.Option.slice_get_read, lemmas.Option.slice_get_within}
pub use Rattle.std.specs.List.{AllZip, cons_option, each_same, filter, filter_map, find, flat_map, range_with_len}
pub use Rattle.std.specs.Prelude.{int_lt, is_some, max, min, negsuc, not, slice_get, unsigned_abs, ◌&&◌, ◌==◌, ◌||◌}
pub use Rattle.cell_balance.proofs.Enclosing.{le_over, over_le}
pub use Rattle.cell_balance.specs.{CellEncloses, DrainEncloses, EnclosesStep, EvapEncloses, ExactCell, ExactDrain, ExactEvap, ExactFixed, ExactFlow, ExactLink, ExactRiver, FixedEncloses, FlowEncloses}
pub use Rattle.cell_balance.specs.{HasEqualEnds, HasLinkBack, LinkEncloses, RiverEncloses, SolvesStep, cell_at}
pub use Rattle.decimal_input.proofs.FloorLaws.{cross_trans_signed, le-add, mul_mono_right}
pub use Rattle.decimal_input.proofs.Orders.{AtMost-refl, AtMost-trans, den_plus, num_plus, over-AtMost, times-AtMost}
pub use Rattle.decimal_input.specs.{Encloses, EnclosesSigned, Fraction, IsOver, Ratio, as_fraction, number, opposite, over, size, Fractions.AtMost, Fractions.den, Fractions.plus, declared.dec.Dec.Dec}
pub use Rattle.deck_span.specs.{AllThree, AreAlike, AreArraysSame, AreEntriesAlike, AreGivenAlike, ArePeriodsAlike, AreRatesAlike, AreSame, Finds, InOrder, IsBetween, IsCell, IsCellBetween, IsCellIn}
pub use Rattle.deck_span.specs.{IsDecBetween, IsDrainBetween, IsEntryBetween, IsEvapBetween, IsFirst, IsFirstDifference, IsFirstOfLayers, IsFixedBetween, IsFlowBetween, IsFound, IsFractionBetween}
pub use Rattle.deck_span.specs.{IsGivenAtMost, IsGivenBetween, IsHeadCell, IsLayerCell, IsListCell, IsPeriodBetween, IsPeriodCell, IsRateBetween, IsRatioBetween, IsRiverBetween, IsSizeBetween}
pub use Rattle.deck_span.specs.{IsStepBetween, LiesBetween, ModelsGiveChoices, ModelsSolveChoices, OrderedHeadsLieBetween, Shares, SharesBounds, SharesEvaporation, SharesGrid, SharesIn, SharesOptions}
pub use Rattle.deck_span.specs.{SharesProperties, SharesSizes, SharesTimes, apart, array_at, bottoms, cell_in_grid, comparing_order, drains, earlier, fixed_from, frame, generals, next, none}
pub use Rattle.deck_span.specs.{period_frame, properties, rivers, step_from, wells}
pub use Rattle.flow_equations.proofs.TurnedFlows.{own_share}
pub use Rattle.flow_equations.specs.{exact_cell, exact_drain, exact_evap, exact_fixed, exact_flow, exact_link, exact_river, exact_step, variable_heads}
pub use Rattle.model_types.specs.{DrainSource, EvapSource, FixedSource, FlowSource, FromStorage, IsEvapValid, IsModel, Pumped, Received, RiverSource, ToConstant, ToGeneral, as_drain, as_general}
pub use Rattle.model_types.specs.{as_river, as_well, between_heads, cell_count, cell_of, conductance, constant_faces, dec_at, drain_sources, entries, evap_at, evap_source, evap_sources, faces}
pub use Rattle.model_types.specs.{fixed_sources, flow_sources, head_or_kept, index_of, int_at, is_active, is_chosen, is_constant, is_variable, kept_head, last_given, layer_size, local_entries}
pub use Rattle.model_types.specs.{multiplier, no_number, no_period, no_stresses, one, period_at, place_in_layer, power, recharge_at, river_sources, start_head, storage_at, through, variable_cells}
pub use Rattle.model_types.specs.{variable_faces, declared.entry.Entry.Entry, declared.face.Face.Face, declared.grid.CellId.CellId, declared.model.FlowModel.FlowModel, declared.period.Period.Period}
unfoldable pub use Rattle.model_types.specs.{area, column_conductance, constant_head, entries_of, geometric, given_in, part_passed, row_conductance, storage, variable_below, vertical_conductance}
unfoldable pub use Rattle.model_types.specs.{vertical_half}
pub use Rattle.model_types.specs.declared.entry.Given.{Given}
pub use Rattle.name_file.specs.declared.package.Package.{Package}
pub use Rattle.name_file.specs.declared.package.Package.TheVariants.{Bas, Chd, Dis, Drn, Evt, Ghb, Lpf, Rch, Riv, Wel}
pub use Rattle.problem_hull.specs.{IsHull, IsHullPair, cell_hull, drain_hull, evap_hull, fixed_hull, flow_hull, river_hull, zip_with}
