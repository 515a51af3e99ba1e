mod Common
pub mod Forward
pub mod BasForms
