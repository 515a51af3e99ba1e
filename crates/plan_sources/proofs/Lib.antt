mod Common
pub mod Steps
pub mod Networks
pub mod Enclosing
