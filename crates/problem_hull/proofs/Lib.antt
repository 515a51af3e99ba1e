mod Common
pub mod Hulls
pub mod Fits
pub mod OneHull
pub mod Refusals
