pub mod Counting
pub mod Endings
pub mod Keeps
pub mod Passing
pub mod Shares
