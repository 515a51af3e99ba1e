mod Common
pub mod Clipped
pub mod Waters
pub mod Flows
pub mod Clamped
pub mod Smalls
pub mod Elevations
