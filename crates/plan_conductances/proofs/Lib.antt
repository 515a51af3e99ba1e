mod Common
pub mod Energy
pub mod ExampleMet
pub mod Growing
pub mod OneWells
pub mod TwoPlans
