mod Common
pub mod Sums
pub mod Balances
pub mod Signs
