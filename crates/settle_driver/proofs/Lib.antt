mod Common
pub mod Turning
pub mod Sweeping
pub mod Phasing
pub mod Viewing
