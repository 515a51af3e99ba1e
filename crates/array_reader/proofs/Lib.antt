mod Common
mod ZeroLemmas
pub mod NumberLemmas
pub mod StepLemmas
pub mod Forward
