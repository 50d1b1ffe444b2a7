pub mod Escapes
pub mod Taking
