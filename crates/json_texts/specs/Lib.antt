pub mod Changes
pub mod code
