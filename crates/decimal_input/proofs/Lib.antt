mod Common
pub mod Caps
pub mod Cross
pub mod Differences
pub mod FloorLaws
pub mod Named
pub mod Orders
pub mod Parts
pub mod Powers
pub mod Products
pub mod SameNumbers
pub mod SignedFloors
pub mod Spelled
pub mod Unique
pub mod WholeUnits
pub mod Zeros
