mod Common
pub mod Leasts
pub mod Falls
pub mod Sides
pub mod SidesTurns
pub mod BothSides
pub mod SidesSettled
pub mod BothSettle
pub mod Sums
pub mod Leaving
pub mod Pairs
