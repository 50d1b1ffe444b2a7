pub mod Tracing
pub mod Endless
