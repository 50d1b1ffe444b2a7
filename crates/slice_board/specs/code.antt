-- How the table's words, the crate's fields and its steps on the table stand for the definitions.
pub mod Words
pub mod Fields
pub mod Plays
pub mod Closing
pub mod Worded
