pub mod Found
pub mod Levels
pub mod Marks
pub mod Targets
