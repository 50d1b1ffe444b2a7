pub mod Built
pub mod Checks
