pub mod Lists
pub use Rattle.model_writer.specs.Lists.{entries_in, zone_bytes}
unfoldable pub use Rattle.model_writer.specs.Lists.{chosen_bytes, entry_line, line_bytes, part_bytes, spaced_words}
