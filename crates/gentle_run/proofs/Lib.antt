mod Common
pub mod Enclosed
pub mod Existing
pub mod Faults
pub mod Checking
pub mod Firsts
pub mod HeadsOne
pub mod OneVerdict
