pub mod Calls
pub mod Sums
pub mod Worded
