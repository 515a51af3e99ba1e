-- Names that several proofs of this crate cite, of the crates below and of its own definitions, passed on from one place. Declares nothing.
pub use Rattle.std.proofs.Common.{All, Bool, List, Ok, [], arith, drop, false, length, map, negsuc, not, pos, refl, subst, sym, take, true, ℕ, ℤ, ◌&&◌, ◌*◌, ◌-◌, ◌<◌, ◌∙◌, ◌≡◌, ◌≤◌}
pub use Rattle.model_types.specs.{HasSize, cell_count, int_at, is_int, layer_size, declared.grid.Grid.Grid}
pub use Rattle.outside.specs.{FileSet, words}
pub use Rattle.period_arrays.specs.{ArrayKind, IsArea, IsInForce, IsLayers, IsReals, array_or, flag_if, is_layer, is_negative, is_option, layer_step, nothing_yet, unit_if, with_area}
pub use Rattle.period_arrays.specs.{declared.area.Area.Area, declared.area.InForce.InForce}
unfoldable pub use Rattle.period_arrays.specs.{area_at, arrays_in, arrays_of, flag_at, flags_of, layers_at, layers_tested, option_at, option_line, period_at, periods_of, tested_area}
pub use Rattle.record_lines.proofs.{Forward.begun_held, Forward.rest_has_its_lines, Loops.each_step, Loops.step_goes_on, Loops.steps_done, Loops.steps_end, Loops.stops_all, Loops.with_front}
pub use Rattle.record_lines.proofs.{Readings.gives_only_less, Readings.goes_on, Readings.if_clear, Readings.if_passed, Readings.ok_gives_only, Readings.some_give, Readings.then_}
pub use Rattle.record_lines.specs.{GivesOnly, Left, LineMay, LinesMay, Numbered, each_number, for_each, left_from, line_at, without_comments}
