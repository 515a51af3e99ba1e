mod Common
pub mod LineLemmas
