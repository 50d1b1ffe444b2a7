pub mod Ranges
pub mod Bounds
