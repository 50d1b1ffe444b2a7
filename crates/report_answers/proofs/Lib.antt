pub mod queries
pub mod busy
