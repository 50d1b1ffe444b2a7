pub mod BitRuns
pub mod ListTexts
pub mod RangeLines
