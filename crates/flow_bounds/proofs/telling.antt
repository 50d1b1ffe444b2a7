pub mod Adding
pub mod Links
pub mod Points
pub mod Statements
pub mod Telling
