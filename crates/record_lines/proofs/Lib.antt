mod Common
pub mod CutLemmas
pub mod LeftLemmas
pub mod Loops
pub mod SpreadLemmas
pub mod WordLemmas
pub mod Readings
pub mod Forward
