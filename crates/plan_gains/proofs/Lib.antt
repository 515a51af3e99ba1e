mod Common
pub mod Cells
pub mod TermSums
pub mod Limits
pub mod Totals
pub mod Values
