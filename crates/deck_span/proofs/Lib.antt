mod Common
pub mod Layers
pub mod Finding
pub mod AlikeParts
pub mod OneDifference
pub mod ThreeLists
pub mod HullBounds
pub mod HullsEnclose
pub mod GivenHeadsBetween
pub mod SourcesBetween
pub mod StepsBetween
pub mod SameFrames
pub mod AlikeBetween
pub mod OwnChoices
