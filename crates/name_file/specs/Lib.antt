pub mod Pairs
pub mod Reading
pub use Rattle.name_file.specs.Pairs.{AreFiles, HasNeededPackages, NamesMay, file_of, has_package, is_needed, is_same_package, packages_of}
pub use Rattle.name_file.specs.Reading.{after_type, after_words}
unfoldable pub use Rattle.name_file.specs.Reading.{after_line, after_lines, after_package, file_in, is_integer, is_passed_over, names_of, package_of, whole}
pub use Rattle.name_file.specs.contracts.package.Package.{the_type}
pub use Rattle.name_file.specs.contracts.package.PackagePartialEq.TheImpl.{ghosts}
