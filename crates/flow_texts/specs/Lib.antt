pub mod Tables
pub mod code
