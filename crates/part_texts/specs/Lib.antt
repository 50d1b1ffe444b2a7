pub mod Lines
pub mod Merges
pub mod Orders
pub mod Parts
pub mod Shares
pub mod code
