mod Common
pub mod Loading
pub mod Gaining
