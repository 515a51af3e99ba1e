pub mod Forms
pub mod Listing
pub mod LastLines
pub mod Reading
pub mod Rows
pub mod Laws
pub use Rattle.listing_io.specs.Forms.{Form, IsForm, IsPairLine, LinesReadExactly, after_word, first_word, is_negative, is_within, pair_line, pair_text}
pub use Rattle.listing_io.specs.Forms.{value_of, with_byte}
unfoldable pub use Rattle.listing_io.specs.Forms.{candidate, digits_behind, pair_in}
pub use Rattle.listing_io.specs.LastLines.{cell_text, code_text, fault_place, open_place, step_word, time_text}
unfoldable pub use Rattle.listing_io.specs.LastLines.{no_bound_line, no_bound_text, not_certified_line, not_gentle_line, refused_line, unfinished_line}
pub use Rattle.listing_io.specs.Laws.{AreCellBounds, AreFlows, AreListed, AreTerms, AreZonePairs, ConvertibleListingsAreApart, ConvertibleListingsAreReadAgain}
pub use Rattle.listing_io.specs.Laws.{ConvertibleListingsWereWritten, IsCellBound, IsFlowPair, IsListedAt, IsListedStep, IsListing, IsPairIf, IsTime}
pub use Rattle.listing_io.specs.Laws.{IsWritable, ListingsAreApart, ListingsAreReadAgain, ListingsWereWritten, step_in}
pub use Rattle.listing_io.specs.Listing.{Line, cell_front, cell_line, cell_word, convertible_first_line, digits_line, dir_front, each_lines, end_line}
pub use Rattle.listing_io.specs.Listing.{ended_line, first_line, flow_form, has_evt, head_form, head_front, head_line, head_pair, numbers_text, printed_terms}
pub use Rattle.listing_io.specs.Listing.{source_front, source_line, step_line, term_form, term_line, text_of, titled_line, zone_front, zone_line, zone_pair}
unfoldable pub use Rattle.listing_io.specs.Listing.{all_step_lines, convertible_listing, first_text, head_lines, listing, step_lines, step_text, term_lines}
unfoldable pub use Rattle.listing_io.specs.Listing.{variable_lines, view_text}
pub use Rattle.listing_io.specs.Reading.{Gives, Has, Left, ReadsOrStops, Stops, all_lines, bound_of, convertible_listing_in, first_line_before, first_of}
pub use Rattle.listing_io.specs.Reading.{flow_of, head_if, is_first, is_printed, line_at, listing_in, none_of, or_bad_listing, or_refused, over_at, pair_if}
pub use Rattle.listing_io.specs.Reading.{step_at, steps_to_end, term_if}
unfoldable pub use Rattle.listing_io.specs.Reading.{convertible_listing_at, first_at, flow_at, heads_at, listing_at, pair_at, step_with, terms_at, text_at}
pub use Rattle.listing_io.specs.Rows.{HasDigits, form_of, front_of, row_line}
