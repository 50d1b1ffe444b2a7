mod rows
pub mod sets
pub mod slices
pub mod words
