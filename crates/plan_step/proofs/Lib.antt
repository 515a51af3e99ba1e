mod Common
pub mod BranchBounds
pub mod Corners
pub mod Enclosing
pub mod Fits
pub mod Rounding
pub mod Stretches
