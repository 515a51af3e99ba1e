mod Common
pub mod Decided
pub mod OneStep
pub mod OneListing
pub mod Faces
pub mod Enclosing
pub mod Pieces
pub mod WithWells
pub mod Weathers
pub mod Walking
