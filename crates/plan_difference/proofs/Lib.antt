mod Common
pub mod Differences
pub mod ExampleMet
pub mod Shares
pub mod Sames
pub mod DifferenceBalance
pub mod RampBranches
pub mod DifferenceExists
pub mod AnyWeather
