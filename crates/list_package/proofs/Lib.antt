mod Common
pub mod ColumnLemmas
pub mod EntryForms
pub mod ListForms
pub mod Forward
pub mod InPlace
