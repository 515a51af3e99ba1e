mod Common
pub mod ChosenLemmas
pub mod EvapLemmas
pub mod ModelLemmas
