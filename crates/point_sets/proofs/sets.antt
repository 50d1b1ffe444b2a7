pub mod Laid
pub mod Passing
pub mod SetTexts
pub mod Some
