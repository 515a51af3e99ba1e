mod Common
pub mod Gains
pub mod InOrder
pub mod Joined
