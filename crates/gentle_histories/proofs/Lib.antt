mod Common
pub mod Near
pub mod Flows
pub mod Grows
pub mod Branches
pub mod Depths
pub mod Products
pub mod Boxes
pub mod Balances
pub mod Rounds
pub mod Cells
pub mod Grids
pub mod Steps
pub mod Histories
pub mod Pumped
