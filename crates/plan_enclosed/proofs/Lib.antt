mod Common
pub mod Lists
pub mod Gains
pub mod Sums
pub mod Nets
pub mod Balanced
pub mod Faces
pub mod Enclosed
