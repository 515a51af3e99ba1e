mod Common
pub mod Bounds
pub mod Barrier
pub mod Settled
pub mod Step
pub mod Listing
