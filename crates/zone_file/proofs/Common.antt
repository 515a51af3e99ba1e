-- Names that several proofs of this crate cite, of the crates below and of its own definitions, passed on from one place. Declares nothing.
pub use Rattle.std.proofs.Common.{All, List, None, Ok, Option, Some, [], arith, false, length, map, not, refl, rules, slice_index_or, unsigned_abs, ℕ, ◌∷◌, ◌≡◌, ◌≤◌}
pub use Rattle.array_text.proofs.ArrayForms.{array_files_have_form}
pub use Rattle.outside.specs.{FileSet, file_at, folder_name}
pub use Rattle.record_lines.proofs.Readings.{err_gives_only, goes_on, ok_gives_only, some_give, then_}
pub use Rattle.zone_file.specs.{IsZone, is_zone, wrong_at}
unfoldable pub use Rattle.zone_file.specs.{zones_of, zones_tested}
