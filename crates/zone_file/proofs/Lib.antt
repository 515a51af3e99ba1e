mod Common
pub mod ZoneLemmas
