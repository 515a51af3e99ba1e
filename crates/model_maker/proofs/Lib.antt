mod Common
pub mod Texts
