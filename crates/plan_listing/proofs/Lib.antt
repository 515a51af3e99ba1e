mod Common
pub mod Texts
pub mod Cells
pub mod Readers
pub mod Steps
pub mod Feeds
pub mod Apart
