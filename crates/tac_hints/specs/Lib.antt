pub mod Bytes
pub mod Examples
pub mod Lines
pub mod Names
pub mod Texts
