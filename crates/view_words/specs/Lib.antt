pub mod Kinds
pub mod Commands
pub mod code
