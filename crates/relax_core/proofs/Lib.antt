mod Common
pub mod Keeping
pub mod Views
pub mod Ranges
