mod Common
pub mod ByCell
pub mod Enclosing
pub mod Faults
pub mod Members
pub mod Settling
pub mod Stops
pub mod Walking
