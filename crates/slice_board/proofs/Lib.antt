mod passes
mod rows
pub mod words
pub mod draining
