mod Common
pub mod Orders
pub mod Waters
pub mod Confined
pub mod Cases
pub mod Pumped
