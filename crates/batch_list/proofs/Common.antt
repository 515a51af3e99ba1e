-- Names that several proofs of this crate cite, of the crates below and of its own definitions, passed on from one place. Declares nothing.
pub use Rattle.std.proofs.Common.{All, Bool, Err, List, None, Ok, Option, Result, Some, [], ap, append-nil, append_assoc, false, if◌then◌else◌, length, length-append, map, option_and_then, refl, sym}
pub use Rattle.std.proofs.Common.{true, ℕ, ◌++◌, ◌+◌, ◌∙◌, ◌∷◌, ◌≡◌, ◌≤◌}
pub use Rattle.batch_list.specs.{Entry, entries, first_entry, refusal_of, refusals, unless_refused, with_entries, words_of}
unfoldable pub use Rattle.batch_list.specs.{entry_of, names_in}
pub use Rattle.outside.specs.{IsGoodName, TextMay, WordsMay, folder_name, words}
pub use Rattle.record_lines.specs.{GivesOnly, Left, LineMay, Numbered, StopsText, is_comment, left_from, numbered_of}
