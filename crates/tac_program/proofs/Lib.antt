pub mod known_names
pub mod lists
pub mod programs
