pub mod forms
pub mod lines
pub mod tokens
