pub mod Justified
pub mod Reversals
pub mod Turns
pub mod Ways
