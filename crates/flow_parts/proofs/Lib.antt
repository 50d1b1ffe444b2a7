pub mod ChosenRemarks
pub mod Joining
pub mod MergeLists
pub mod MergedTexts
pub mod Merging
pub mod Numbers
pub mod ReadingBack
pub mod ReadingParts
pub mod Wholes
mod Words
pub mod WrittenLines
