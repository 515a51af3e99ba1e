pub mod Basics
pub use Rattle.bas_package.specs.Basics.{HasBasics, is_in_profile, with_basics}
unfoldable pub use Rattle.bas_package.specs.Basics.{bas_of, basics_of, head_item, option_line}
