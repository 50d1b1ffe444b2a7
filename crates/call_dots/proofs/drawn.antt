pub mod Nodes
pub mod Recursion
