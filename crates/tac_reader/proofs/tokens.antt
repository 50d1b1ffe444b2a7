pub mod Bare
pub mod ReadWords
