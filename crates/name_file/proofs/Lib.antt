mod Common
pub mod NameLemmas
pub mod Forward
