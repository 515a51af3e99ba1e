mod Common
pub mod Ordered
pub mod Made
pub mod Enclosed
