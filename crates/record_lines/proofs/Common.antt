-- Names that several proofs of this crate cite, of the crates below and of its own definitions, passed on from one place. Declares nothing.
pub use Rattle.std.proofs.Common.{All, Bool, Err, List, None, Ok, Option, Result, Some, [], add-one, ap, append_assoc, arith, cond, drop, drop-cons, false, get_or, if◌then◌else◌, inl, inr, length}
pub use Rattle.std.proofs.Common.{lit<, nat_le, nat_lt, not, refl, subst, suc, sym, take, true, zero, ℕ, ◌&&◌, ◌*◌, ◌++◌, ◌+◌, ◌-◌, ◌<◌, ◌==◌, ◌^◌, ◌∙◌, ◌∷◌, ◌≡◌, ◌≤◌, ◌⊎◌}
pub use Rattle.std.proofs.lemmas.List.{append-nil, drop-drop, drop_all, length-append, take_all}
pub use Rattle.std.proofs.lemmas.List.Elements.{All-append, All-cons, All-head, All-nil, All-tail}
pub use Rattle.std.specs.List.{filter, onto_first, position, position_or_len, slice_split}
pub use Rattle.outside.specs.{FileSet, TextMay, WordsMay, folder_name, is_good_name, is_separator, declared.inputs.Refusal.Refusal}
unfoldable pub use Rattle.outside.specs.{lines, words}
pub use Rattle.record_lines.specs.{GivesOnly, Left, LineMay, LinesMay, Numbered, Stops, StopsText, Taking, after_comments, has_word, is_comment, line_from, next_number, numbered_of, source, taking}
pub use Rattle.record_lines.specs.{times, value_of, without_comments, word_taken, ◌>>=◌}
unfoldable pub use Rattle.record_lines.specs.{appended_readings, count, each_number, for_each, left_from, line_at, lines_with_numbers, name_at, next_value, next_word, number_behind, repeated_reading}
unfoldable pub use Rattle.record_lines.specs.{spread, word_at}
