mod Common
pub mod Ordered
pub mod Horizontal
pub mod Vertical
