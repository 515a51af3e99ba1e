mod Common
pub mod Linked
pub mod Thick
pub mod Rows
pub mod Downs
pub mod Fractions
pub mod Cells
pub mod Pairs
pub mod Faces
pub mod Own
pub mod Neighbours
pub mod Wholes
pub mod Order
pub mod Histories
pub mod Pumped
