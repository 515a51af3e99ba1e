mod Common
pub mod Links
mod Darcy
mod StepSums
mod StorageTerms
pub mod Downwards
mod Elevations
pub mod TurnedFlows
mod ChosenCells
mod ReceivedFlows
pub mod GivenAtSteps
mod Solved
pub mod Validity
mod Loose
