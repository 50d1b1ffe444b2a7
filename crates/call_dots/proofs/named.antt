pub mod Calls
pub mod Edges
