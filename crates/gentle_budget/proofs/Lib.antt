mod Common
pub mod Words
pub mod Joined
pub mod StoredTerm
pub mod Sides
pub mod Held
pub mod Sums
pub mod Tested
