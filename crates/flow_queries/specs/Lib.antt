pub mod Queries
pub mod code
