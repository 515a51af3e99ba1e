-- Names that several proofs of this crate cite, of the crates below and of its own definitions, passed on from one place. Declares nothing.
pub use Rattle.std.proofs.Common.{All, Bool, Err, List, None, Ok, Option, Result, Some, [], add-one, ap, arith, cond, drop, drop-cons, false, get_or, inl, inr, length, map, nat_le, nat_lt, negsuc}
pub use Rattle.std.proofs.Common.{not, pos, refl, subst, suc, sum, sum_by, sym, true, zero, ℕ, ℤ, ◌&&◌, ◌+◌, ◌<◌, ◌||◌, ◌∙◌, ◌∷◌, ◌≡◌, ◌≤ℤ◌, ◌≤◌, ◌⊎◌}
pub use Rattle.std.proofs.{lemmas.List.drop_all, lemmas.List.length-map, lemmas.List.Elements.All-cons, lemmas.List.Elements.All-nil, lemmas.List.Elements.All-weaker}
pub use Rattle.std.proofs.{lemmas.Result.err_from_is_err_and}
pub use Rattle.std.specs.Prelude.{IfOk, if◌then◌else◌}
pub use Rattle.bas_package.specs.{HasBasics, bas_of, with_basics}
pub use Rattle.decimal_input.specs.{IsDec, number, declared.dec.Dec.Dec}
pub use Rattle.dis_package.proofs.DisForms.{IsStarted, dis_is}
pub use Rattle.dis_package.specs.{IsDiscretized, IsGridWithin, IsNewPeriod, IsOfBeds, without_stresses}
pub use Rattle.evt_package.specs.{cell_tested, chosen_cell, column_step, column_tested, evap_fault, evaporation_arrays, source}
unfoldable pub use Rattle.evt_package.specs.{columns_tested, evt_of}
pub use Rattle.list_package.proofs.{ColumnLemmas.entry_list, ColumnLemmas.entry_place_is_cell, ColumnLemmas.given_list, ListForms.lists_are, ListForms.steps}
pub use Rattle.list_package.specs.{IsEntry, IsListOf, Kind, entries_in, given_heads, kind_of, with_entries, with_list, declared.entries.ListKind.ListKind, declared.entries.ListKind.TheVariants.Drains}
pub use Rattle.list_package.specs.{declared.entries.ListKind.TheVariants.Generals, declared.entries.ListKind.TheVariants.Rivers, declared.entries.ListKind.TheVariants.Wells}
unfoldable pub use Rattle.list_package.specs.{package_of}
pub use Rattle.lpf_package.specs.{HasFlow, SameBut, is_transient, lpf_of, with_properties}
pub use Rattle.model_reader.specs.{names_in, needed_file, stress_in, stresses, where_named}
unfoldable pub use Rattle.model_reader.specs.{bas_in, basics_tested, dis_in, file_in, lpf_in, model_of, reads, with_stresses}
pub use Rattle.model_types.specs.{HasSize, IsBedChecked, IsBedValid, IsCellValid, IsGrid, IsGrowing, IsLayerArray, IsModel, IsPeriod, IsTimed, bottom_at, cell_count, dec_at, has_bed, int_at}
pub use Rattle.model_types.specs.{is_active, is_int, is_nonzero, layer_size, lowest, number_one, top_at, declared.grid.Grid.Grid, declared.limits.Limits.Limits, declared.model.FlowModel.FlowModel}
pub use Rattle.model_types.specs.{declared.period.Period.Period, declared.period.Stresses.Stresses}
pub use Rattle.name_file.proofs.Forward.{file_named, names_still}
pub use Rattle.name_file.specs.{NamesMay, file_of}
pub use Rattle.name_file.specs.Pairs.{Pairs}
pub use Rattle.name_file.specs.declared.package.Package.TheVariants.{Bas, Chd, Dis, Drn, Evt, Ghb, Lpf, Rch, Riv, Wel}
pub use Rattle.number_limits.specs.{at_cell, cell_step, is_checked_bed, is_positive, is_same_number, is_thick}
unfoldable pub use Rattle.number_limits.specs.{check_result, fault_at}
pub use Rattle.number_limits.specs.declared.passing.Check.TheVariants.{Properties, StartHead, Thickness}
pub use Rattle.outside.specs.{FileSet, InputCounts, ReadsOn, file_at, input_fault, declared.inputs.InputFault.InputFault, declared.inputs.Refusal.Refusal}
pub use Rattle.period_arrays.specs.{ArrayKind, HasArrays, IsArea, IsReals, arrays_in, is_option, no_area, with_area, declared.area.Area.Area}
pub use Rattle.record_lines.proofs.{Loops.stops_all, Readings.gives_only_less, Readings.goes_on, Readings.ok_gives_only, Readings.then_}
pub use Rattle.record_lines.specs.{GivesOnly, Has, Stops, StopsText, ◌>>=◌}
unfoldable pub use Rattle.record_lines.specs.{each_number}
pub use Rattle.stress_packages.specs.{drains, generals, recharge_arrays, rivers, wells}
unfoldable pub use Rattle.stress_packages.specs.{rch_of}
