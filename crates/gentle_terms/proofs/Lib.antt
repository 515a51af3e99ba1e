mod Common
pub mod Parts
pub mod CellTerms
pub mod StepTerms
