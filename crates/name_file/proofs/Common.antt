-- Names that several proofs of this crate cite, of the crates below and of its own definitions, passed on from one place. Declares nothing.
pub use Rattle.std.proofs.Common.{All, Contains, List, None, Ok, Option, Some, [], arith, false, is_some, length, refl, rules, sym, true, ℕ, ◌++◌, ◌∙◌, ◌∷◌, ◌≡◌}
pub use Rattle.std.proofs.lemmas.List.Elements.{All-contains, All-head, All-nil, All-push, All-tail}
pub use Rattle.name_file.specs.{AreFiles, HasNeededPackages, NamesMay, after_type, after_words, file_of, ghosts, has_package, is_integer, is_needed, is_passed_over, is_same_package, package_of}
pub use Rattle.name_file.specs.{packages_of, the_type, Pairs.Pairs, declared.package.Package.Package, declared.package.Package.TheVariants.Bas, declared.package.Package.TheVariants.Dis}
pub use Rattle.name_file.specs.{declared.package.Package.TheVariants.Lpf, declared.package.Package.TheVariants.Wel}
unfoldable pub use Rattle.name_file.specs.{after_line, after_lines, after_package, file_in, names_of, whole}
pub use Rattle.outside.specs.{IsGoodName, TextMay, WordsMay, folder_name, words}
pub use Rattle.record_lines.specs.{GivesOnly, Left, LineMay, Numbered, StopsText, is_comment, numbered_of}
