mod Common
pub mod NumberLemmas
pub mod Exactly
pub mod Terms
pub mod Readers
pub mod Steps
pub mod Feeds
pub mod Walks
pub mod Ends
pub mod Periods
pub mod Rows
pub mod Convertible
