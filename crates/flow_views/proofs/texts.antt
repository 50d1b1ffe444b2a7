pub mod Rows
pub mod Runs
pub mod SameTexts
pub mod Walks
