pub mod Sides
pub use Rattle.cell_relax.specs.Sides.{AreNoLooser, AreWords, IsAsTight, IsRelaxedOn, LetsMove, Moves, RelaxedKeepOrder, head_of, heads_on, other, tighter_of}
pub use Rattle.cell_relax.specs.Sides.{turned_on}
