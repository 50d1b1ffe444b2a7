pub mod FoundNames
pub mod LastNumbers
pub mod NameTexts
