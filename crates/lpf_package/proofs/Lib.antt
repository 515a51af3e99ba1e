mod Common
pub mod LayerLemmas
pub mod LpfForms
