-- How the code's own tables stand for what statements do.
pub mod Asked
pub mod Holding
pub mod Marks
pub mod Problems
