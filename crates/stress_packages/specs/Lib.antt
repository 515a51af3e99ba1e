pub mod Packages
pub use Rattle.stress_packages.specs.Packages.{drains, generals, recharge_arrays, rivers, wells}
unfoldable pub use Rattle.stress_packages.specs.Packages.{rch_of}
