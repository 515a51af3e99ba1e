mod Common
pub mod Faces
pub mod Held
