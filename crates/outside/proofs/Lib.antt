mod Common
pub mod Putting
pub mod Writing
pub mod GoodNames
pub mod NameTests
mod Made
pub mod Agreeing
