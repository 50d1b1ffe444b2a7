pub mod counts
pub mod words
