-- Names that several proofs of this crate cite, of the crates below and of its own definitions, passed on from one place. Declares nothing.
pub use Rattle.std.proofs.Common.{Bool, List, None, Option, Some, [], ap, append_assoc, arith, codes, decimal, drop, false, filter, fold, get_or, length, lit≤, map, max, refl, replicate, suc, sym}
pub use Rattle.std.proofs.Common.{take, true, ℕ, ◌++◌, ◌+◌, ◌-◌, ◌<◌, ◌∙◌, ◌∷◌, ◌≡◌, ◌≤◌}
pub use Rattle.std.proofs.{lemmas.Grind.flat_map-append, lemmas.Grind.replicate_next, lemmas.List.append-nil, lemmas.List.length-map, lemmas.List.map-append, lemmas.List.map-id, lemmas.List.take_more}
pub use Rattle.std.specs.List.{flat_map, range_with_len}
pub use Rattle.array_text.specs.{Line, array_lines, in_rows, integer_word, number_word}
unfoldable pub use Rattle.array_text.specs.{line_text, row_line, row_lines, text}
pub use Rattle.model_text.specs.{deck_files, deck_name, deck_names, dis_item_6, dis_item_7, evt_items, file_line, has, layer_values, lpf_arrays, name_item, package_file, packages, rch_items}
pub use Rattle.model_text.specs.{storage_option, zone_file}
unfoldable pub use Rattle.model_text.specs.{deck_text, dis_item_1, file_text, file_texts, list_item_2, list_item_5, list_item_6, list_lines, period_list, written, zoned_text}
pub use Rattle.model_types.specs.declared.model.FlowModel.{FlowModel}
pub use Rattle.model_writer.specs.{zone_bytes}
unfoldable pub use Rattle.model_writer.specs.{chosen_bytes, entry_line, line_bytes, part_bytes, spaced_words}
