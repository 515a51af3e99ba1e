mod Common
pub mod Texts
pub mod ListTexts
