mod Common
pub mod Apart
pub mod Pairs
pub mod Picked
pub mod PlannedSteps
