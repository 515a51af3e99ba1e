mod Common
pub mod Elimination
pub mod Added
pub mod LinearSteps
pub mod Regimes
pub mod OneRamp
pub mod WholeSolutions
pub mod HeldSteps
pub mod WorkedSteps
pub mod LooseSteps
