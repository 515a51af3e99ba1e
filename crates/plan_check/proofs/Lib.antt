mod Common
pub mod Listed
pub mod Wider
pub mod OneVerdict
pub mod Enclosing
pub mod Holding
pub mod Checking
