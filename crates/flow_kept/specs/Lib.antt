pub mod Facts
pub mod Kept
pub mod Words
pub mod code
