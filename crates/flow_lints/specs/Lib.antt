pub mod Examples
pub mod Lints
pub mod code
