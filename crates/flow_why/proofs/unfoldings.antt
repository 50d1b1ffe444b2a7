pub mod Moving
pub mod Programs
