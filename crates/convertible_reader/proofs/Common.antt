-- Names that several proofs of this crate cite, of the crates below and of its own definitions, passed on from one place. Declares nothing.
pub use Rattle.std.proofs.Common.{All, Bool, List, Ok, [], ap, arith, cond, false, inl, inr, length, pos, refl, rules, subst, sym, true, ℕ, ◌&&◌, ◌*◌, ◌+◌, ◌-◌, ◌<◌, ◌||◌, ◌∙◌, ◌≡◌}
pub use Rattle.std.proofs.{lemmas.List.Elements.All-nil, lemmas.List.Elements.All-weaker, lemmas.Result.err_from_is_err_and}
pub use Rattle.std.specs.Prelude.{Err, None, Some, if◌then◌else◌, int_lt, ◌⊎◌}
pub use Rattle.array_reader.specs.{integer, layer_or, number, number_at, zero_list}
pub use Rattle.convertible_reader.specs.{AreLayersOf, changes_vertical, yield_step, declared.settings.LayerSettings.LayerSettings}
unfoldable pub use Rattle.convertible_reader.specs.{contents_of, convertible_lpf_in, convertible_lpf_of, convertible_model_of, layer_at, layer_properties, layers_of, laytyp_at, laytyp_list}
unfoldable pub use Rattle.convertible_reader.specs.{option_line, settings_of, yield_layer, yields_tested}
pub use Rattle.decimal_input.specs.{IsDec}
pub use Rattle.lpf_package.specs.{HasFlow, SameBut, is_transient, nth_layer}
pub use Rattle.model_reader.proofs.ReadLemmas.{both_read, text_stops_here}
pub use Rattle.model_types.specs.{IsBedChecked, IsCellValid, IsGrid, IsModel, IsPeriod, cell_count, dec_at, int_at, is_active, is_nonzero, layer_size, no_number, declared.grid.Grid.Grid}
pub use Rattle.model_types.specs.{declared.model.FlowModel.FlowModel}
pub use Rattle.number_limits.proofs.Canonical.{dec_at_is, no_number_is}
pub use Rattle.number_limits.specs.{at_cell, check_result}
pub use Rattle.outside.specs.{FileSet, ReadsOn, file_at, input_fault, words}
pub use Rattle.record_lines.proofs.Forward.{begun_held, line_held, rest_has_its_lines}
pub use Rattle.record_lines.proofs.Loops.{each_step, ends_text, is_done, step_goes_on, steps_done, steps_end, steps_stop, stops_all, with_front}
pub use Rattle.record_lines.proofs.Readings.{counted_gives, gives_only_less, goes_on, if_clear, ok_gives_only, repeated_are, repeated_held, some_give, then_}
pub use Rattle.record_lines.specs.{GivesOnly, Left, LineMay, LinesMay, Numbered, Taking, beginning, each_number, left_from, repeated_reading, without_comments, ◌>>=◌}
pub use Rattle.water_table.specs.{with_yield, declared.convertible_layers.ConvertibleLayers.ConvertibleLayers}
