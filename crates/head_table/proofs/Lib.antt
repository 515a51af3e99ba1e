mod Common
pub mod WordReads
pub mod Seeing
pub mod Joining
