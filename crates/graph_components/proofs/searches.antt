pub mod Both
pub mod Reaching
