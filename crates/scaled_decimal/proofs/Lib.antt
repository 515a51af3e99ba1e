mod Common
pub mod Between
pub mod Monotone
pub mod Nearest
pub mod Products
pub mod Rounded
pub mod Sizes
