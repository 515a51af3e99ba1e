mod Common
pub mod Members
pub mod Ranks
mod Remainders
pub mod Leads
pub mod Numbering
mod NeighbourFaces
pub mod Growth
pub mod GivenTables
mod StepLists
pub mod NoStresses
pub mod WideLimits
