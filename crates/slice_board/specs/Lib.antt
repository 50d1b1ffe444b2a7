pub mod Passes
pub mod Boards
pub mod Steps
pub mod Lawful
pub mod code
pub mod Ranges
pub mod Teams
