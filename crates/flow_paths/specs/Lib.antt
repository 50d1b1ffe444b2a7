pub mod Doubts
pub mod Paths
pub mod Pictures
pub mod Sets
pub mod code
