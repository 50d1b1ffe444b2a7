pub mod Growing
pub mod Reaching
