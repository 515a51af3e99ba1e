mod Common
pub mod Moves
pub mod Lines
pub mod HistoriesBound
pub mod UnderWay
pub mod Pieces
pub mod Settled
pub mod Unique
