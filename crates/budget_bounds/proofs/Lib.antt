mod Common
pub mod Caps
pub mod Cells
pub mod Enclosed
