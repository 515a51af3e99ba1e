mod Common
pub mod PlaceLemmas
pub mod AreaForms
pub mod FileForms
pub mod Forward
