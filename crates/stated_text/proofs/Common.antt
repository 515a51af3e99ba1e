-- Names that several proofs of this crate cite, of the crates below and of its own definitions, passed on from one place. Declares nothing.
pub use Rattle.std.proofs.Common.{Bool, Err, List, None, Ok, Option, Result, Some, [], ap, append_assoc, arith, codes, drop, false, filter, get_or, if◌then◌else◌, inl, inr, length, map, pos, refl}
pub use Rattle.std.proofs.Common.{rules, subst, suc, sym, take, true, unsigned_abs, ℕ, ℤ, ◌++◌, ◌+◌, ◌-◌, ◌<◌, ◌==◌, ◌||◌, ◌∙◌, ◌∷◌, ◌≡◌, ◌≤◌}
pub use Rattle.std.proofs.{lemmas.List.append-nil, lemmas.List.append_cancel_left, lemmas.List.append_cancel_right, lemmas.List.drop_all, lemmas.List.length-append, lemmas.List.take-append-drop}
pub use Rattle.std.proofs.{lemmas.Result.err_from_is_err_and, lemmas.Slice.Eq.bytes_eq-Decides}
pub use Rattle.std.specs.{List.All, List.AllByRecursion, List.flat_map, List.list_any, Str.bytes_eq}
pub use Rattle.std.specs.Prelude.{MatchOption, MatchResult, option_map, unwrap_or}
pub use Rattle.listing_io.proofs.{Steps.listings_were_written, Walks.next_of}
pub use Rattle.listing_io.specs.{IsListing, Line, all_lines, all_step_lines, end_line, ended_line, first_line, first_line_before, listing_at, listing_in, or_bad_listing, text_of}
unfoldable pub use Rattle.listing_io.specs.{first_text, listing}
pub use Rattle.listing_io.specs.declared.listing.ListedStep.{ListedStep}
pub use Rattle.model_reader.specs.{reads}
pub use Rattle.model_text.proofs.{ModelTexts.zoned_reads, ZoneTexts.no_zones_there, ZoneTexts.zones_read, ZoneTexts.zones_there}
pub use Rattle.model_text.specs.{IsWritable, deck_name, deck_names, has, is_mark, package_file, packages, zone_file, zone_name, zoned_files}
unfoldable pub use Rattle.model_text.specs.{file_line, file_text, file_texts, written, zoned_text}
pub use Rattle.model_types.specs.{HasSize, most_bytes, times, declared.limits.Limits.Limits, declared.model.FlowModel.FlowModel}
pub use Rattle.outside.specs.{File, FileSet, IsGoodName, IsRefusal, bytes_under, is_good_name, with_limit, declared.inputs.Refusal.Refusal, declared.inputs.TextFault.TextFault}
unfoldable pub use Rattle.outside.specs.{lines}
pub use Rattle.record_lines.specs.{GivesOnly, Has, HasText, StopsText, next_number, ◌>>=◌}
pub use Rattle.stated_text.specs.{AreJoined, AreReadBack, CanBeRead, CutsAreJoined, DecksAreCut, DecksAreReadBack, DifferFirst, FirstDifferences, ListingIsReadBack, ListingsAreReadBack}
pub use Rattle.stated_text.specs.{OneTextOneModel, StandsIn, TextFile, after_byte, at_lines, begins_part, cut_after, cut_at, file_of, files_of, first_is, has_zones, is_current, is_file_line, joined}
pub use Rattle.stated_text.specs.{last_of, later_by, line_of, opened, or_bad, part_of, second_at, zoned_model, zones_in, declared.part.Part.Part}
unfoldable pub use Rattle.stated_text.specs.{after_due, line_after, part_at, parts_in, pieces}
pub use Rattle.zone_pairs.specs.declared.pair.ZonePair.{ZonePair}
