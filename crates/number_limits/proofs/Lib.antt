mod Common
pub mod CellCanonical
pub mod PassedCells
pub mod Canonical
pub mod SignLemmas
pub mod MagnitudeLemmas
pub mod HeadLemmas
pub mod FloorLemmas
