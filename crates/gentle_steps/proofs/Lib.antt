mod Common
pub mod Options
pub mod Tables
pub mod SideHeads
pub mod Cells
pub mod Posing
pub mod Held
