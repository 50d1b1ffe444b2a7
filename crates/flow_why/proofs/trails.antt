pub mod Collecting
pub mod Following
