pub mod facts
pub mod texts
