mod Common
pub mod Added
pub mod Between
pub mod PlanForms
pub mod PutInPlace
pub mod Valid
