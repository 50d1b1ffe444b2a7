pub mod forms
pub mod known_names
pub mod layouts
pub mod lines
pub mod programs
pub mod sections
pub mod tokens
