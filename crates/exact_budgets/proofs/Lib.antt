mod Common
pub mod Kept
pub mod CellNets
pub mod Balance
pub mod Bounds
pub mod Worked
pub mod FaceSums
pub mod LoneCells
