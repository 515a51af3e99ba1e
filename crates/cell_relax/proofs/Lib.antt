mod Common
pub mod Sides
pub mod Relaxing
pub mod Orders
