mod Common
pub mod Firsts
pub mod Reached
pub mod Passing
pub mod Outcomes
pub mod OneVerdict
pub mod Branches
pub mod FlowPairs
pub mod Passed
pub mod Checking
pub mod RunSteps
pub mod RunTerms
pub mod RunListed
pub mod RunText
pub mod HeadsChecked
