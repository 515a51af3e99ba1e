mod Common
pub mod DueTexts
pub mod CutTexts
pub mod Faults
pub mod Stands
pub mod FolderTexts
pub mod Readings
pub mod ListedTexts
pub mod DeckCuts
pub mod Joining
pub mod OneModel
pub mod ReadBack
