pub mod searches
pub mod walks
