mod Common
pub mod Views
