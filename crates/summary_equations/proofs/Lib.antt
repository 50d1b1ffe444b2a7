pub mod paths
pub mod solutions
pub mod tables
