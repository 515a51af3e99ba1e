mod Common
pub mod Histories
pub mod Assembled
pub mod Limits
pub mod OneStep
pub mod Refusals
