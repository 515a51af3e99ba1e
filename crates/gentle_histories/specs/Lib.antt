pub mod Histories
pub mod Worked
pub use Rattle.gentle_histories.specs.Histories.{AreAllGentle, AreAllGentleFrom, HasGentleHistory, HistoriesExist}
pub use Rattle.gentle_histories.specs.Worked.{PumpedCellHasHistory}
