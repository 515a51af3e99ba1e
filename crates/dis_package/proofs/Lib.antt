mod Common
pub mod ModelLemmas
pub mod Forward
pub mod FrameForms
pub mod GridForms
pub mod DisForms
