pub mod Values
pub mod answers
