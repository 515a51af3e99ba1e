mod Common
pub mod Counts
