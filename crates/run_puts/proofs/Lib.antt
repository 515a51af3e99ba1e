mod Common
pub mod Batches
mod Grouped
pub mod Makes
pub mod Pieces
