pub mod KeptWords
pub mod Layouts
pub mod ListingLines
pub mod ListingSections
pub mod RoundTrip
pub mod StatementTexts
