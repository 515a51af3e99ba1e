pub mod Spread
pub mod Reading
pub use Rattle.record_lines.specs.Reading.{Gives, GivesOnly, GivesText, Has, HasText, Stops, StopsText, begins_with, is_word, line_from, ◌>>=◌}
unfoldable pub use Rattle.record_lines.specs.Reading.{appended_readings, each_number, for_each, line_at, name_at, repeated_reading, word_at}
pub use Rattle.record_lines.specs.Spread.{Left, LineMay, LinesMay, Numbered, Taking, Yields, after_comments, beginning, is_comment, next_number, numbered_of}
pub use Rattle.record_lines.specs.Spread.{source, taking, times, value_of, without_comments, word_taken}
unfoldable pub use Rattle.record_lines.specs.Spread.{count, has_word, left_from, lines_with_numbers, next_value, next_word, number_behind, spread}
