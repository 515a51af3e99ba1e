pub mod Cut
pub mod Parts
pub mod Faults
pub mod Stated
pub mod Laws
pub use Rattle.stated_text.specs.Cut.{TextFile, after_byte, cut_at, file_of, files_of, first_is, is_file_line, joined, opened}
unfoldable pub use Rattle.stated_text.specs.Cut.{after_due, pieces}
pub use Rattle.stated_text.specs.Faults.{IsLaterFault, IsMovedFault, IsRefused, cut_after}
pub use Rattle.stated_text.specs.Laws.{AreJoined, AreReadBack, CanBeRead, CutsAreJoined, DecksAreCut, DecksAreReadBack, DifferFirst, FirstDifferences}
pub use Rattle.stated_text.specs.Laws.{ListingIsReadBack, ListingsAreReadBack, OneTextOneModel}
unfoldable pub use Rattle.stated_text.specs.Laws.{line_after}
pub use Rattle.stated_text.specs.Parts.{at_lines, begins_part, has_zones, in_text, is_current, last_of, later_by, line_of, or_bad, part_of, second_at}
pub use Rattle.stated_text.specs.Parts.{steps_after, unlike, zoned_model, zones_in}
unfoldable pub use Rattle.stated_text.specs.Parts.{part_at, parts_in}
pub use Rattle.stated_text.specs.Stated.{IsStated, StandsIn, parts_text}
