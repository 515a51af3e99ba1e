mod Common
pub mod NumberForms
pub mod ArrayForms
pub mod LayerForms
pub mod DigitTexts
pub mod NumberTexts
pub mod WordTexts
pub mod LineTexts
pub mod FreeTexts
pub mod ArrayTexts
