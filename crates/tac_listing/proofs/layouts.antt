pub mod ListingTexts
pub mod StatementNames
