-- Names that several proofs of this crate cite, of the crates below and of its own definitions, passed on from one place. Declares nothing.
pub use Rattle.std.proofs.Common.{All, Bool, Err, List, None, Ok, Option, Result, Some, [], ap, append_assoc, arith, drop, false, if◌then◌else◌, inl, inr, length, map, nat_le, nat_lt, neg_ℤ, negsuc}
pub use Rattle.std.proofs.Common.{not, pos, refl, replicate, subst, suc, sym, take, true, unsigned_abs, zero, ℕ, ℤ, ◌%◌, ◌&&◌, ◌*ℤ◌, ◌*◌, ◌++◌, ◌+ℤ◌, ◌+◌, ◌-ℤ◌, ◌-◌, ◌/◌, ◌<ℤ◌, ◌<◌, ◌==◌, ◌^◌, ◌∙◌}
pub use Rattle.std.proofs.Common.{◌∷◌, ◌≡◌, ◌≤ℤ◌, ◌≤◌, ◌⊎◌}
pub use Rattle.std.proofs.{lemmas.Bool.and_parts, lemmas.Bool.cases_lt, lemmas.Bool.Decides.nat_tests, lemmas.Int.ints, lemmas.List.append-nil, lemmas.List.drop-append-le, lemmas.List.drop_at}
pub use Rattle.std.proofs.{lemmas.List.length-append, lemmas.List.length-drop, lemmas.List.length-map, lemmas.List.length-replicate, lemmas.List.length-take-le, lemmas.List.length_push}
pub use Rattle.std.proofs.{lemmas.List.nil_from_length, lemmas.List.take-append-drop, lemmas.List.take-append-le, lemmas.List.take_all, lemmas.List.Elements.All-append, lemmas.List.Elements.All-cons}
pub use Rattle.std.proofs.{lemmas.List.Elements.All-drop, lemmas.List.Elements.All-head, lemmas.List.Elements.All-map, lemmas.List.Elements.All-nil, lemmas.List.Elements.All-push}
pub use Rattle.std.proofs.{lemmas.List.Elements.All-replicate, lemmas.List.Elements.All-tail, lemmas.List.Elements.All-take, lemmas.List.Elements.All-weaker}
pub use Rattle.std.specs.{Fmt.decimal, Fmt.signed_decimal, List.join_with_byte, List.list_all, List.position_or_len, List.range_with_len}
pub use Rattle.std.specs.Prelude.{codes, flat_map}
pub use Rattle.array_reader.proofs.NumberLemmas.{canonical_is, integers_are, is_product, is_word_number}
pub use Rattle.array_reader.specs.{Kind, at_line, constant, internal, is_exponent, is_short, named, of_keyword, real, spelt_number, values_of, whole, without_line}
unfoldable pub use Rattle.array_reader.specs.{array_at, canonical, control_at, format_at, free_list, free_rows, integer, integer_layer, integer_product, integer_scaled, keyword, layer_array, layer_or}
unfoldable pub use Rattle.array_reader.specs.{layers, multiplied_value, number, number_at, product, real_layer, reals, scaled_value, significant, value_alone, value_at, zeros}
pub use Rattle.array_text.specs.{ArraysHaveForm, ArraysReadAsWritten, FreeListsReadAsWritten, IsLine, IsShort, IsWord, IsWordByte, Line, LinesReadAsWritten, ListsHaveForm, Reads, Takes, WordsHaveForm}
pub use Rattle.array_text.specs.{WordsReadAsWritten, array_lines, control_record, sign}
unfoldable pub use Rattle.array_text.specs.{integer_array, integer_word, left_of_lines, line_text, number_after, number_word, numbered_lines, real_array, row_line, row_lines, text}
pub use Rattle.decimal_input.proofs.Spelled.{names_read, number_append, reads_spelt}
pub use Rattle.decimal_input.specs.{AreDigits, IsCanonical, IsDec, IsExponent, IsInteger, IsSign, IsTested, Spelling, Spells, differ, is_digit, number_from, spelling_of, with_sign}
pub use Rattle.decimal_input.specs.{declared.dec.Dec.Dec, declared.dec.NumFault.NumFault}
pub use Rattle.outside.specs.{FileSet, file_at, is_separator, refusal, declared.inputs.Refusal.Refusal}
unfoldable pub use Rattle.outside.specs.{lines, words}
pub use Rattle.record_lines.proofs.Readings.{appended_are, err_gives_only, gives_only_less, goes_on, ok_gives_only, repeated_are, then_}
pub use Rattle.record_lines.specs.{GivesOnly, Left, Numbered, Taking, beginning, left_from, name_at, next_number, next_word, ◌>>=◌}
unfoldable pub use Rattle.record_lines.specs.{appended_readings, has_word, line_at, next_value, repeated_reading, spread, word_at}
