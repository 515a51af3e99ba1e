mod Common
pub mod HeldLemmas
pub mod FolderLemmas
pub mod FlowForms
pub mod YieldForms
pub mod ModelForms
