mod Common
pub mod Elevations
pub mod Between
