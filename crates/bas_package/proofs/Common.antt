-- Names that several proofs of this crate cite, of the crates below and of its own definitions, passed on from one place. Declares nothing.
pub use Rattle.std.proofs.Common.{All, List, Ok, length, refl, rules, ℕ, ◌≡◌}
pub use Rattle.bas_package.specs.{HasBasics, is_in_profile}
unfoldable pub use Rattle.bas_package.specs.{bas_of, basics_of, head_item, option_line}
pub use Rattle.outside.specs.{FileSet, words}
pub use Rattle.record_lines.proofs.{Forward.begun_held, Forward.line_held, Forward.rest_has_its_lines, Readings.goes_on, Readings.if_passed, Readings.ok_gives_only, Readings.some_give, Readings.then_}
pub use Rattle.record_lines.specs.{GivesOnly, Left, LineMay, LinesMay, Numbered, left_from, without_comments}
