pub mod Selections
pub mod code
