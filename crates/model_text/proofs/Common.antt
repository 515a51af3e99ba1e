-- Names that several proofs of this crate cite, of the crates below and of its own definitions, passed on from one place. Declares nothing.
pub use Rattle.std.proofs.Common.{All, Bool, List, None, Ok, Option, Result, Some, [], ap, append_assoc, arith, cond, drop, false, filter, fold, get_or, if◌then◌else◌, inl, inr, is_some, length, map}
pub use Rattle.std.proofs.Common.{max, nat_abs, nat_le, nat_lt, negsuc, not, pos, refl, replicate, set, subst, suc, sum_by, sym, take, true, zero, ℕ, ℤ, ◌%◌, ◌&&◌, ◌*◌, ◌++◌, ◌+◌, ◌-◌, ◌/◌, ◌<◌, ◌==◌}
pub use Rattle.std.proofs.Common.{◌^◌, ◌||◌, ◌∙◌, ◌∷◌, ◌≡◌, ◌≤◌, ◌⊎◌}
pub use Rattle.std.proofs.lemmas.Bool.{and_parts, leb-true, not-true, or_parts}
pub use Rattle.std.proofs.lemmas.Bool.Decides.{nat_tests}
pub use Rattle.std.proofs.lemmas.List.{append-nil, drop-drop, drop-take, drop_all, get_or-replicate, get_or-set_other, length-drop, length-map, length-replicate, length-take-le, map-append}
pub use Rattle.std.proofs.lemmas.List.{nil_from_length, take-append-drop, take-take, take_all, take_more}
pub use Rattle.std.proofs.lemmas.List.Elements.{All-append, All-cons, All-drop, All-from_recursion, All-head, All-map, All-nil, All-replicate, All-tail, All-take, All-weaker}
pub use Rattle.std.proofs.lemmas.List.Sums.{list_all-from_AllPass, sum_by_from}
pub use Rattle.std.specs.{Fmt.decimal, Fmt.digit_glyph, Fmt.digits_onto, Fmt.signed_decimal, List.AllByRecursion, List.AllPairs, List.AllZip, List.flat_map, List.join_with_byte, List.list_all}
pub use Rattle.std.specs.{List.list_any, List.position, List.position_or_len, List.range_with_len, Str.bytes_eq}
pub use Rattle.std.specs.Prelude.{codes}
pub use Rattle.array_reader.specs.{free_list, layer_array, real, value_alone}
unfoldable pub use Rattle.array_reader.specs.{canonical, integer, integer_layer, layer_or, layers, number, number_at, real_layer, significant, value_at, zero_at, zero_list, zero_step, zeros}
pub use Rattle.array_text.proofs.ArrayTexts.{array_takes, arrays_read_back, free_lists, integer_written, real_one, reals_written}
pub use Rattle.array_text.proofs.DigitTexts.{digits_spell}
pub use Rattle.array_text.proofs.FreeTexts.{IsWrittenAs, alone_begins, free_list_reads, last_word, line_begins, on_line, row_is_words, same_start, value_reads, values_read}
pub use Rattle.array_text.proofs.LineTexts.{counted_take, last_takes, line_takes, line_words, next_line, one_line, takes_none, takes_where, text_left, then_takes}
pub use Rattle.array_text.proofs.NumberTexts.{integer_reads, number_reads, one, short_exponent}
pub use Rattle.array_text.proofs.WordTexts.{all_pass, count_is_word, integer_is_word, line_by_test, number_is_word, word_by_test}
pub use Rattle.array_text.specs.{IsLine, IsShort, IsWord, IsWordByte, Line, Takes, array_lines, in_rows, sign}
unfoldable pub use Rattle.array_text.specs.{integer_array, integer_word, left_of_lines, line_text, number_after, number_word, numbered_lines, real_array, row_line, row_lines, text}
pub use Rattle.bas_package.specs.{with_basics}
unfoldable pub use Rattle.bas_package.specs.{bas_of, basics_of, head_item}
pub use Rattle.decimal_input.specs.{IsDec, Ratio, is_digit, declared.dec.Dec.Dec}
unfoldable pub use Rattle.decimal_input.specs.{ratio, scaled_ratio, units_of}
pub use Rattle.dis_package.specs.{is_growth, is_time, kind_of, kind_or_refusal, model_of_grid, without_stresses}
unfoldable pub use Rattle.dis_package.specs.{beds_of, bottom_at, bottoms_of, count_at, dis_of, frame_of, grid_of, head_of, size_at, time_of, widths}
pub use Rattle.evt_package.specs.{evaporation_arrays}
unfoldable pub use Rattle.evt_package.specs.{evt_of}
pub use Rattle.list_package.specs.{Differ, Kind, first_fault, given_heads, is_left_out, no_marks, with_list}
unfoldable pub use Rattle.list_package.specs.{cell_at, entry_at, entry_of, header_of, item_line, list_at, lists_of, new_list}
pub use Rattle.lpf_package.specs.{is_transient, nth_layer, with_properties}
unfoldable pub use Rattle.lpf_package.specs.{contents_of, layer_at, layers_of, lpf_of, properties_of, settings_of, storage_layer}
pub use Rattle.model_reader.specs.{needed_file, stress_in, stresses, where_named}
unfoldable pub use Rattle.model_reader.specs.{bas_in, basics_tested, dis_in, lpf_in, model_of, names_in, reads, with_stresses}
pub use Rattle.model_text.specs.{AreNames, HasFlow, HasLists, HasNoMark, HasPackage, IsBasic, IsDiscretized, IsEntry, IsFileName, IsGridWithin, IsLayers, IsListOf, IsOfBeds, IsReadAgain, IsWritable}
pub use Rattle.model_text.specs.{LacksPackage, ListPackagesReadAsWritten, ListsReadAsWritten, ModelsReadAreReadAsWritten, NoLineIsAMark, ThreeCells, ZonesReadAsWritten, deck, deck_files, deck_name}
pub use Rattle.model_text.specs.{deck_names, each_layer, file_type, file_unit, has, heads_of, is_listed, is_mark, layer_values, lines_of, name_file, numbers_of, package_file, packages, steady_word}
pub use Rattle.model_text.specs.{storage_option, with_areas, with_lists, zone_file, zone_name, zoned_files}
unfoldable pub use Rattle.model_text.specs.{bas_item_1, bas_item_2, bas_item_3, bas_item_4, bas_lines, dis_item_1, dis_item_2, dis_item_3, dis_item_4, dis_item_5, dis_item_6, dis_item_7, dis_lines}
unfoldable pub use Rattle.model_text.specs.{evt_item_2, evt_items, evt_lines, list_item_2, list_item_5, list_item_6, list_lines, lpf_arrays, lpf_item_1, lpf_item_4, lpf_item_5, lpf_lines, lpf_zeros}
unfoldable pub use Rattle.model_text.specs.{name_item, period_list, rch_item_2, rch_items, rch_lines, written}
pub use Rattle.model_types.proofs.{Numbering.column_below, Numbering.layer_below, Numbering.place_gives, Numbering.row_below, WideLimits.entries_few, WideLimits.in_row_few, WideLimits.layers_few}
pub use Rattle.model_types.specs.{HasSize, IsGrid, IsGrowing, IsPeriod, IsPositive, IsTimed, cell_count, cell_of, column_of, dec_at, int_at, is_int, is_nonzero, layer_of, layer_size, most_bytes}
pub use Rattle.model_types.specs.{most_cells, most_entries, most_in_row, most_layers, no_number, number_one, place, row_of, declared.grid.CellId.CellId, declared.grid.Grid.Grid}
pub use Rattle.model_types.specs.{declared.limits.Limits.Limits, declared.model.FlowModel.FlowModel, declared.period.Period.Period}
pub use Rattle.name_file.proofs.NameLemmas.{is_itself, is_same}
pub use Rattle.name_file.specs.{file_of, has_package, is_same_package}
unfoldable pub use Rattle.name_file.specs.{after_line, after_lines, after_package, file_in, is_integer, is_passed_over, names_of, package_of}
pub use Rattle.name_file.specs.Pairs.{Pairs}
pub use Rattle.name_file.specs.declared.package.Package.{Package}
pub use Rattle.name_file.specs.declared.package.Package.TheVariants.{Bas, Chd, Dis, Drn, Evt, Ghb, Lpf, Rch, Riv, Wel}
pub use Rattle.number_limits.proofs.SignLemmas.{positive_is}
pub use Rattle.number_limits.specs.{is_positive, within, declared.passing.Check.TheVariants.StartHead, declared.passing.Check.TheVariants.Thickness}
unfoldable pub use Rattle.number_limits.specs.{check_result, fault_at, is_at_least, is_at_most, is_thick}
pub use Rattle.outside.specs.{File, FileSet, bytes_under, file_at, folder_name, with_limit, words, declared.inputs.Refusal.Refusal}
unfoldable pub use Rattle.outside.specs.{is_good_name, lines}
pub use Rattle.period_arrays.specs.{ArrayKind, CoversLayer, HasArrays, IsReals, array_or, contents, flag_if, is_layer, is_option, layer_step, no_area, nothing_yet, unit_if, with_area}
unfoldable pub use Rattle.period_arrays.specs.{area_at, arrays_in, arrays_of, flag_at, flags_of, layers_at, layers_tested, option_at, option_line, period_at, periods_of, tested_area}
pub use Rattle.period_arrays.specs.declared.area.Area.{Area}
pub use Rattle.record_lines.specs.{Left, Numbered, beginning, begins_with, is_comment, is_word, left_from, next_number, without_comments, ◌>>=◌}
unfoldable pub use Rattle.record_lines.specs.{appended_readings, each_number, for_each, name_at, repeated_reading, word_at}
pub use Rattle.stress_packages.specs.{drains, generals, recharge_arrays, rivers, wells}
unfoldable pub use Rattle.stress_packages.specs.{rch_of}
