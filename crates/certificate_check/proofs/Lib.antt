mod Common
pub mod Certified
pub mod Cut
