-- Names that several proofs of this crate cite, of the crates below and of its own definitions, passed on from one place. Declares nothing.
pub use Rattle.std.proofs.Common.{All, List, None, Option, Some, [], ap, arith, cond, get_or, inl, inr, length, map, not, pos, refl, subst, sym, take, ℕ, ℤ, ◌*ℤ◌, ◌*◌, ◌++◌, ◌-ℤ◌, ◌-◌, ◌<◌, ◌^◌, ◌∙◌}
pub use Rattle.std.proofs.Common.{◌∷◌, ◌≡◌, ◌≤ℤ◌}
pub use Rattle.std.proofs.lemmas.Bool.{cases_lt}
pub use Rattle.std.proofs.lemmas.List.{append-nil, append_assoc, get_or-map, get_or_default, get_or_past, length-map, map-append}
pub use Rattle.std.proofs.lemmas.List.Elements.{All-append, All-cons, All-filter, All-head, All-nil, All-tail, All-weaker, filter-append, filter_map-append}
pub use Rattle.std.specs.List.{AllZip, cons_option, filter, filter_map, flat_map, range_with_len}
pub use Rattle.std.specs.Prelude.{Contains, int_lt, is_some, ◌&&◌, ◌==◌}
pub use Rattle.decimal_input.specs.{EnclosesSigned, Fraction, Ratio, as_fraction, number, over, size}
pub use Rattle.deck_span.specs.{AllThree, Choice, IsBetween, IsChoiceBetween, IsEntryBetween, IsPeriodBetween, SolvesChoicesFrom, drains, generals, next, none, own_choice, rivers, wells}
pub use Rattle.flow_equations.specs.{SolvesAt, exact_cell, exact_drain, exact_evap, exact_fixed, exact_flow, exact_link, exact_river, exact_step, heads_of}
pub use Rattle.model_types.specs.{DrainSource, EvapSource, FixedSource, FlowSource, FromStorage, IsModel, Pumped, Received, RiverSource, ToConstant, ToGeneral, as_drain, as_general, as_river, as_well}
pub use Rattle.model_types.specs.{between_heads, cell_count, cell_of, conductance, constant_faces, dec_at, entries, evap_sources, faces, fixed_sources, given_in, head_or_kept, int_at, is_active}
pub use Rattle.model_types.specs.{is_chosen, is_variable, kept_head, last_given, no_period, period_at, place_in_layer, recharge_at, start_head, through, variable_cells, variable_faces}
pub use Rattle.model_types.specs.{declared.entry.Entry.Entry, declared.model.FlowModel.FlowModel, declared.period.Period.Period}
unfoldable pub use Rattle.model_types.specs.{area, column_conductance, constant_head, entries_of, part_passed, row_conductance, storage, times, variable_below, vertical_conductance, vertical_half}
pub use Rattle.plan_histories.specs.{KeepsWellsApart, MembersKeepWellsApart, PairsAreHistories, PairsHaveOne, PlannedSteps, ReadersKeepWellsApart, SolvesPairsFrom, plan_flows}
pub use Rattle.plan_wells.proofs.Added.{as_many, lists_kept, period_is}
pub use Rattle.plan_wells.specs.{IsWell, with_plan, with_wells}
