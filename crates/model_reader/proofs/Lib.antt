mod Common
pub mod ReadLemmas
pub mod PeriodForms
pub mod CheckForms
pub mod RchForms
pub mod StageForms
pub mod ReadForms
pub mod ModelLimits
