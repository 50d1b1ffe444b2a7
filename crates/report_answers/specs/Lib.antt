pub mod Statements
pub mod code
