mod Common
pub mod Depths
pub mod FacePairs
pub mod Pairs
pub mod Units
