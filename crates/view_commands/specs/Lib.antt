pub mod Views
pub mod Lines
pub mod Steps
pub mod Merges
pub mod code
