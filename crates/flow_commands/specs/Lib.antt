pub mod Runs
pub mod Kinds
pub mod Commands
pub mod code
