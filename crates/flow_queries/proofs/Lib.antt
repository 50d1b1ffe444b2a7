pub mod queries
pub mod threads
