-- Names that several proofs of this crate cite, of the crates below and of its own definitions, passed on from one place. Declares nothing.
pub use Rattle.std.proofs.Common.{All, Bool, Err, List, None, Ok, Option, Result, Some, add-one, ap, arith, false, if◌then◌else◌, inl, inr, length, nat_le, nat_lt, neg_ℤ, negsuc, pos, pow-suc, refl}
pub use Rattle.std.proofs.Common.{suc, sym, true, zero, ℕ, ℤ, ◌%◌, ◌*◌, ◌+ℤ◌, ◌+◌, ◌-◌, ◌/◌, ◌<ℤ◌, ◌<◌, ◌==◌, ◌^◌, ◌↔◌, ◌∙◌, ◌≡◌, ◌≤ℤ◌, ◌≤◌}
pub use Rattle.std.proofs.lemmas.Result.{err_from_is_err_and}
pub use Rattle.std.specs.Prelude.{IfSome}
pub use Rattle.array_reader.specs.{ControlMay, at_line, format_at, in_file, is_exponent, keyword, layer_array, number_at, number_or_fault, of_keyword, or_bad, spelt_number, with_multiplier}
unfoldable pub use Rattle.array_reader.specs.{canonical, control_at, free_list, free_rows, integer, layers, number, product, significant, value_alone, value_at, zero_at, zero_list, zero_step, zeros}
pub use Rattle.decimal_input.specs.declared.dec.NumFault.{NumFault}
pub use Rattle.outside.specs.{FileSet, IsGoodName, IsRefusal, WordsMay, is_good_name, words, declared.inputs.TextFault.TextFault, declared.inputs.TextFault.TheVariants.Memory}
pub use Rattle.outside.specs.{declared.inputs.TextFault.TheVariants.Refused}
pub use Rattle.record_lines.proofs.Forward.{line_words, name_held, rest_has_its_lines, value_held, word_held}
pub use Rattle.record_lines.proofs.Loops.{ends_all, ends_text, is_done, list_ends, list_goes_on, list_stops, lists_done, step_goes_on, steps_done, steps_end, with_front}
pub use Rattle.record_lines.specs.{GivesOnly, Left, LineMay, LinesMay, Numbered, StopsText, Taking, appended_readings, beginning, each_number, is_word, line_at, repeated_reading, source, word_taken}
pub use Rattle.record_lines.specs.{◌>>=◌}
unfoldable pub use Rattle.record_lines.specs.{name_at, next_value}
pub use Rattle.record_lines.specs.declared.free.FreeFault.{FreeFault}
